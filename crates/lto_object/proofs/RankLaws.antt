-- The summary and the body of a function stand at its rank among the functions that have a body.
use Rattle.std.proofs.Common.{◌≡◌, ◌+◌, ◌<◌, ℕ, zero, suc, List, [], ◌∷◌, length, map, take, get_or, Bool, true, false, cond, Option, Some, None, refl, sym, ap, subst, ◌∙◌, arith}
use Rattle.std.specs.Prelude.{slice_get, IfSome, IsSomeAnd}
use Rattle.std.proofs.lemmas.List.{length-map}
use Rattle.std.proofs.lemmas.List.FromFn.{length-map-range_with_len, get_or-map-range_with_len}
use Rattle.gimple_ir.specs.declared.types.Function.{Function}
use Rattle.gimple_ir.specs.declared.types.Module.{Module}
use Rattle.gimple_ir.specs.declared.summary.Summary.{Summary}
use Rattle.module_stream.specs.Bodies.{body_of}
use Rattle.func_summary.specs.Summaries.{summary_of}
use Rattle.gimple_checks.proofs.Lists.{map_here, slice_get_at}
use Rattle.func_summary.proofs.Checked.{place_inside}
use denote.Ref.{Bor}
use Rattle.lto_object.specs.Bounds.{is_defined, defined_of}
use Rattle.lto_object.specs.BodyStream.{bodies_of}
use Rattle.lto_object.specs.Objects.{IsDefinition, ranks_of, ObjectData, IsObject}

pub defined_at : (m : Module) (place : ℕ) → IsDefinition m place → (f : Function) × (slice_get m.functions place ≡ Some f) × (is_defined f ≡ true)
defined_at m place h = by (slice_get m.functions place) refl h
  where
    by : (o : Option Function) → slice_get m.functions place ≡ o → IsSomeAnd o (λ f. is_defined f ≡ true) → (f : Function) × (slice_get m.functions place ≡ Some f) × (is_defined f ≡ true)
    by None e k = absurd k
    by (Some f) e k = (f, e, k)

pub rank_small : (m : Module) (place : ℕ) → IsDefinition m place → place < length (ranks_of m.functions)
rank_small m place h =
    let at = defined_at m place h in
    omega (arith, place_inside m.functions place at.0 at.1, length-map-range_with_len (λ k. length (defined_of (take k m.functions))) 0 (length m.functions))

pub rank_is : (ranks : List ℕ) (m : Module) (place d : ℕ) → IsDefinition m place → ranks ≡ ranks_of m.functions → get_or ranks place d ≡ length (defined_of (take place m.functions))
rank_is ranks m place d h e =
    let at = defined_at m place h in
    ap (λ rs. get_or rs place d) e
    ∙ get_or-map-range_with_len (λ k. length (defined_of (take k m.functions))) 0 (length m.functions) place place d (place_inside m.functions place at.0 at.1) (omega arith)

rank_step : {Y : Type 0} (h : Function → Y) (b : Bool) (g : Function) (fs : List Function) (k : ℕ) (f : Function) → slice_get (map h (defined_of fs)) k ≡ Some (h f)
    → slice_get (map h (cond b (g ∷ defined_of fs) (defined_of fs))) (cond b (suc k) k) ≡ Some (h f)
rank_step h true g fs k f at = at
rank_step h false g fs k f at = at

rank_next : (b : Bool) (g : Function) (fs : List Function) → length (cond b (g ∷ defined_of fs) (defined_of fs)) ≡ cond b (suc (length (defined_of fs))) (length (defined_of fs))
rank_next true g fs = refl
rank_next false g fs = refl

by_rank : {Y : Type 0} (h : Function → Y) (fs : List Function) (i : ℕ) (f : Function) → slice_get fs i ≡ Some f → is_defined f ≡ true → slice_get (map h (defined_of fs)) (length (defined_of (take i fs))) ≡ Some (h f)
by_rank h [] i f here e = cc
by_rank h (g ∷ fs) zero f here e =
    let same : f ≡ g = cc in
    rw (sym same, e) refl
by_rank h (g ∷ fs) (suc i) f here e =
    ap (slice_get (map h (cond (is_defined g) (g ∷ defined_of fs) (defined_of fs)))) (rank_next (is_defined g) g (take i fs))
    ∙ rank_step h (is_defined g) g fs (length (defined_of (take i fs))) f (by_rank h fs i f here e)

if_some : {X : Type 0} (o : Option X) (x : X) (P : X → Type 0) → o ≡ Some x → P x → IfSome o P
if_some o x P e p = subst (λ k. IfSome k P) (sym e) p

abbrev some : Summary → Option Summary
some s = Some s

same : (s t : Summary) → some s ≡ some t → s ≡ t
same s t e = cc

pub summary_there : (o : ObjectData) (place k : ℕ) (s : Summary) → IsObject o → IsDefinition o.source place → k ≡ length (defined_of (take place o.source.functions)) → slice_get o.summaries k ≡ Some s
    → IfSome (slice_get o.source.functions place) (λ f. s ≡ summary_of o.source f)
summary_there o place k s is h e at =
    let f = defined_at o.source place h in
    let there = by_rank (summary_of o.source) o.source.functions place f.0 f.1 f.2 in
    let both : Some s ≡ Some (summary_of o.source f.0) = sym at ∙ ap (λ ss. slice_get ss k) is.summaries ∙ ap (slice_get (map (summary_of o.source) (defined_of o.source.functions))) e ∙ there in
    if_some (slice_get o.source.functions place) f.0 (λ g. s ≡ summary_of o.source g) f.1 (same s (summary_of o.source f.0) both)

pub summary_some : (o : ObjectData) (place : ℕ) → IsObject o → IsDefinition o.source place → length (defined_of (take place o.source.functions)) < length o.summaries
summary_some o place is h =
    let f = defined_at o.source place h in
    let there = by_rank (summary_of o.source) o.source.functions place f.0 f.1 f.2 in
    place_inside o.summaries (length (defined_of (take place o.source.functions))) (summary_of o.source f.0) (ap (λ ss. slice_get ss (length (defined_of (take place o.source.functions)))) is.summaries ∙ there)

-- ---- bodies

twice : (fs : List Function) → map body_of (map (λ (g : Function). g.body) fs) ≡ map (λ (g : Function). body_of g.body) fs
twice [] = refl
twice (g ∷ fs) = ap (λ t. body_of g.body ∷ t) (twice fs)

-- the bytes of bodies that are lent
abbrev Lent : List (Bor (List ℕ)) → List (List ℕ)
Lent bodies = map (λ b. b.now) bodies

lent_there : (m : Module) (place : ℕ) (bodies : List (Bor (List ℕ))) (f : Function) → Lent bodies ≡ map body_of (bodies_of m.functions) → slice_get m.functions place ≡ Some f → is_defined f ≡ true
    → slice_get (Lent bodies) (length (defined_of (take place m.functions))) ≡ Some (body_of f.body)
lent_there m place bodies f is at e =
    ap (λ bs. slice_get bs (length (defined_of (take place m.functions)))) (is ∙ twice (defined_of m.functions))
    ∙ by_rank (λ g. body_of g.body) m.functions place f at e

abbrev some_bytes : List ℕ → Option (List ℕ)
some_bytes bs = Some bs

same_bytes : (a b : List ℕ) → some_bytes a ≡ some_bytes b → a ≡ b
same_bytes a b e = cc

pub body_some : (m : Module) (place : ℕ) (bodies : List (Bor (List ℕ))) → Lent bodies ≡ map body_of (bodies_of m.functions) → IsDefinition m place → length (defined_of (take place m.functions)) < length bodies
body_some m place bodies is h =
    let f = defined_at m place h in
    omega (arith, place_inside (Lent bodies) (length (defined_of (take place m.functions))) (body_of f.0.body) (lent_there m place bodies f.0 is f.1 f.2), length-map bodies (λ (b : Bor (List ℕ)). b.now))

pub body_there : (m : Module) (place k : ℕ) (bodies : List (Bor (List ℕ))) (b : Bor (List ℕ)) → Lent bodies ≡ map body_of (bodies_of m.functions) → IsDefinition m place → k ≡ length (defined_of (take place m.functions)) → k < length bodies → b ≡ get_or bodies k b
    → IfSome (slice_get m.functions place) (λ f. b.now ≡ body_of f.body)
body_there m place k bodies b is h e lt at =
    let f = defined_at m place h in
    let here : slice_get (Lent bodies) k ≡ Some b.now = map_here (λ (x : Bor (List ℕ)). x.now) bodies k b (slice_get_at bodies k b lt at) in
    let there : slice_get (Lent bodies) k ≡ Some (body_of f.0.body) = ap (slice_get (Lent bodies)) e ∙ lent_there m place bodies f.0 is f.1 f.2 in
    let both : some_bytes b.now ≡ some_bytes (body_of f.0.body) = sym here ∙ there in
    if_some (slice_get m.functions place) f.0 (λ g. b.now ≡ body_of g.body) f.1 (same_bytes b.now (body_of f.0.body) both)
