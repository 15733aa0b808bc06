-- The machine's ways from state to state.
use Rattle.std.proofs.Common.{◌≡◌, ℕ, suc, ◌+◌, List, [], ◌∷◌, ◌++◌, length, Some, refl, ap, ◌∙◌, subst, arith, ◌*◌}
use Rattle.rv64_isa.specs.declared.instr.Instr.{Instr}
use Rattle.rv64_meaning.specs.Machine.{Segments, State, Go, Standing, At, effect, fetch, step, follow, after}
use Rattle.rv64_meaning.proofs.RunLaws.{after-add}
use Rattle.follow_laws.specs.Relation.{StandsAt, Comes, Leads, ComesTo, EndsWith}

-- ---- ways

-- after n steps and then k
both : (m : Segments) (n k : ℕ) (p q r : Standing) → after m n p ≡ q → after m k q ≡ r → after m (n + k) p ≡ r
both m n k p q r e f = after-add m n k p ∙ ap (after m k) e ∙ f

pub comes_here : (m : Segments) (s : State) → Comes m s s
comes_here m s = record { steps = 0; there = refl }

pub comes_on : (m : Segments) (s t u : State) → Comes m s t → Comes m t u → Comes m s u
comes_on m s t u a b = record { steps = a.steps + b.steps; there = both m a.steps b.steps _ _ _ a.there b.there }

pub comes_of : (m : Segments) (s t : State) → Leads m s t → Comes m s t
comes_of m s t a = record { steps = suc a.steps; there = a.there }

pub leads_on : (m : Segments) (s t u : State) → Leads m s t → Comes m t u → Leads m s u
leads_on m s t u a b =
    let e : suc a.steps + b.steps ≡ suc (a.steps + b.steps) = omega arith in
    record { steps = a.steps + b.steps; there = subst (λ n. after m n (At s) ≡ At u) e (both m (suc a.steps) b.steps _ _ _ a.there b.there) }

pub comes_to_lead : (m : Segments) (s t u : State) → Comes m s t → Leads m t u → Leads m s u
comes_to_lead m s t u a b =
    let e : a.steps + suc b.steps ≡ suc (a.steps + b.steps) = omega arith in
    record { steps = a.steps + b.steps; there = subst (λ n. after m n (At s) ≡ At u) e (both m a.steps (suc b.steps) _ _ _ a.there b.there) }

pub leads_twice : (m : Segments) (s t u : State) → Leads m s t → Leads m t u → Leads m s u
leads_twice m s t u a b = leads_on m s t u a (comes_of m t u b)

pub comes_to_end : (m : Segments) (s t : State) (status : ℕ) (output : List ℕ) → Comes m s t → EndsWith m t status output → EndsWith m s status output
comes_to_end m s t status output a b = record { steps = a.steps + b.steps; ends = both m a.steps b.steps _ _ _ a.there b.ends }

-- one instruction
pub one : (m : Segments) (s t : State) (i : Instr) → fetch m s.pc ≡ Some i → effect m i s ≡ Go t → Leads m s t
one m s t i f e = record { steps = 0; there = ap (λ o. follow (step m o s) s) f ∙ ap (λ n. follow n s) e }

-- one instruction, and then on
pub then : (m : Segments) (s t u : State) (i : Instr) → fetch m s.pc ≡ Some i → effect m i s ≡ Go t → Leads m t u → Leads m s u
then m s t u i f e c = leads_twice m s t u (one m s t i f e) c

pub leads_as : (m : Segments) (s t u : State) → t ≡ u → Leads m s t → Leads m s u
leads_as m s t u e c = subst (λ x. Leads m s x) e c

-- a state reached from a state reached
pub reach_on : (m : Segments) (s : State) (P Q : State → Type 0) → (p : ComesTo m s P) → ((t : State) → P t → ComesTo m t Q) → ComesTo m s Q
reach_on m s P Q p f = let q = f p.state p.holds in record { state = q.state; leads = leads_twice m s p.state q.state p.leads q.leads; holds = q.holds }

-- ---- places

pub stands_front : (m : Segments) (a : ℕ) (xs ys : List Instr) → StandsAt m a (xs ++ ys) → StandsAt m a xs
stands_front m a [] ys h = tt
stands_front m a (x ∷ xs) ys h = (h.0, stands_front m (a + 4) xs ys h.1)

pub stands_back : (m : Segments) (a : ℕ) (xs ys : List Instr) → StandsAt m a (xs ++ ys) → StandsAt m (a + 4 * length xs) ys
stands_back m a [] ys h = let e : a ≡ a + 4 * 0 = omega arith in subst (λ n. StandsAt m n ys) e h
stands_back m a (x ∷ xs) ys h =
    let e : a + 4 + 4 * length xs ≡ a + 4 * length (x ∷ xs) = omega arith in
    subst (λ n. StandsAt m n ys) e (stands_back m (a + 4) xs ys h.1)
