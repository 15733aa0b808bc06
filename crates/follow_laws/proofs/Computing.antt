-- Instructions that compute: a result in t0, of what t0 and t1 have.
use Rattle.std.proofs.Common.{◌≡◌, ℕ, ◌+◌, ◌*◌, List, [], ◌∷◌, ◌++◌, length, refl, sym, ap, ◌∙◌, subst, arith, length-append}
use Rattle.rv64_isa.specs.declared.instr.Instr.{Instr}
use Rattle.rv64_meaning.specs.Machine.{Segments, State, Go, effect, put}
use Rattle.follow_laws.specs.Relation.{StandsAt}
use Rattle.follow_laws.specs.Effects.{Differ}
use Rattle.follow_laws.proofs.WayLaws.{one, comes_of, stands_front, stands_back}
use Rattle.follow_laws.proofs.TemplateLaws.{set_other}
use Rattle.follow_laws.proofs.Operands.{set_same}
use Rattle.follow_laws.proofs.Words.{Reaches, reaches_here, reaches_on}

-- t0 has a result, so many words on, and all else is as before
pub record Computed (words result : ℕ) (s t : State) : Type 0 where
  pub place : t.pc ≡ s.pc + 4 * words
  pub value : t.reg 5 ≡ result
  pub others : (q : ℕ) → Differ q 5 → t.reg q ≡ s.reg q
  pub mem : t.mem ≡ s.mem
  pub input : t.input ≡ s.input
  pub output : t.output ≡ s.output

-- the instructions make this result of these numbers in t0 and t1
abbrev pub Computes : List Instr → ℕ → ℕ → ℕ → Type 0
Computes code a b result = (m : Segments) (s : State) → s.reg 5 ≡ a → s.reg 6 ≡ b → StandsAt m s.pc code → Reaches m s (Computed (length code) result s)

-- no instruction leaves t0
pub computes_none : (a b : ℕ) → Computes [] a b a
computes_none a b m s t0 t1 has = reaches_here m s _ (record { place = omega arith; value = t0; others = λ q d. refl; mem = refl; input = refl; output = refl })

-- one instruction, by what it does with both
pub computes_by : (i : Instr) (give : ℕ → ℕ → ℕ) (a b : ℕ) → ((m : Segments) (s : State) → effect m i s ≡ Go (put s 5 (give (s.reg 5) (s.reg 6)))) → Computes (i ∷ []) a b (give a b)
computes_by i give a b does m s t0 t1 has =
    let e = does m s ∙ ap (λ x. Go (put s 5 (give x (s.reg 6)))) t0 ∙ ap (λ x. Go (put s 5 (give a x))) t1 in
    let t = put s 5 (give a b) in
    record {
      state = t;
      comes = comes_of m s t (one m s t i has.0 e);
      holds = record { place = refl; value = set_same s.reg 5 (give a b); others = λ q d. set_other s.reg 5 (give a b) q d; mem = refl; input = refl; output = refl };
    }

-- one after the other: t1 stays
pub computes_on : (front back : List Instr) (a b between result : ℕ) → Computes front a b between → Computes back between b result → Computes (front ++ back) a b result
computes_on front back a b between result first second m s t0 t1 has =
    reaches_on m s _ _ (first m s t0 t1 (stands_front m s.pc front back has))
    (λ t k. reaches_on m t _ _ (second m t k.value (k.others 6 refl ∙ t1) (subst (λ n. StandsAt m n back) (sym k.place) (stands_back m s.pc front back has)))
    (λ u j. reaches_here m u _ (record {
      place = omega (arith, k.place, j.place, length-append front back);
      value = j.value;
      others = λ q d. j.others q d ∙ k.others q d;
      mem = j.mem ∙ k.mem;
      input = j.input ∙ k.input;
      output = j.output ∙ k.output;
    })))

-- the same result by another name
pub computes_as : (code : List Instr) (a b result other : ℕ) → result ≡ other → Computes code a b result → Computes code a b other
computes_as code a b result other e c = subst (Computes code a b) e c
