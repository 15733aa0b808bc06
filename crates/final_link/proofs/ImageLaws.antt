-- The parts of an image behind one another.
use Rattle.std.proofs.Common.{◌≡◌, ℕ, ◌+◌, ◌-◌, List, ◌++◌, length, ap, ap₂, ◌∙◌, append_assoc}
use Rattle.std.specs.Prelude.{replicate}
use Rattle.final_link.specs.Stubs.{start_address, stubs}
use Rattle.final_link.specs.Image.{code_bytes, text_size, data_address, scratch_behind, top_behind, headers_with, image_with}

pub image-is : (main frame zeroed n_end begin : ℕ) (code stored a b c d e f : List ℕ)
    → a ≡ headers_with (length stored) (length stored + zeroed) frame code → b ≡ a ++ replicate (0x1000 - 176) 0
    → c ≡ b ++ code_bytes (stubs (top_behind (length stored + zeroed) frame code) (scratch_behind (length stored + zeroed) code) main) → d ≡ c ++ code
    → e ≡ d ++ replicate (begin - n_end) 0 → f ≡ e ++ stored → begin - n_end ≡ data_address code - start_address - text_size code → f ≡ image_with main frame code stored zeroed
image-is main frame zeroed n_end begin code stored a b c d e f ea eb ec ed ee ef n =
    let arrays = length stored + zeroed in
    let zeros : List ℕ = replicate (0x1000 - 176) 0 in
    let stub : List ℕ = code_bytes (stubs (top_behind arrays frame code) (scratch_behind arrays code) main) in
    let tail : List ℕ = replicate (data_address code - start_address - text_size code) 0 in
    ef ∙ ap (λ (x : List ℕ). x ++ stored) (ee ∙ ap₂ (λ (x : List ℕ) (k : ℕ). x ++ replicate k 0)
    (ed ∙ ap (λ (x : List ℕ). x ++ code) (ec ∙ ap (λ (x : List ℕ). x ++ stub) (eb ∙ ap (λ (x : List ℕ). x ++ zeros) ea))) n)
    ∙ five (headers_with (length stored) arrays frame code) zeros stub code tail stored
  where
    five : (h z s k t q : List ℕ) → ((((h ++ z) ++ s) ++ k) ++ t) ++ q ≡ h ++ (z ++ ((s ++ k) ++ (t ++ q)))
    five h z s k t q = simp append_assoc
