-- Systems that act alike stay related, step by step.
use Rattle.std.proofs.Common.{◌≡◌, ℕ, zero, suc, refl, subst, sym, ap, ap₂, ◌∙◌, List, [], ◌∷◌, ◌++◌, Option, Some, None, Bool, true, false, length}
use Rattle.std.specs.Prelude.{nat_lt}
use Rattle.std.proofs.lemmas.Option.{none-some}
use Rattle.gimple_ir.specs.declared.types.Value.{Value}
use Rattle.gimple_meaning.specs.Acts.{Act, Fault, Goes, Calls, Leaves, Exits}
use Rattle.gimple_meaning.specs.Systems.{System, Frame, Machine, State, Running, Ended, Undefined, most_frames, fresh, entered, applied, next, step, store_of}
use Rattle.gimple_meaning.specs.Run.{run}
use Rattle.gimple_meaning.specs.LockStep.{Tie, Waiting, Stacks, States, Called, Alike, ActAlike, RunsTied}

waiting_lengths : (a b : System) (tie : Tie) (f g : ℕ) (ps qs : List Frame) → Waiting a b tie f g ps qs → length ps ≡ length qs
waiting_lengths a b tie f g [] [] w = refl
waiting_lengths a b tie f g [] (q ∷ qs) w = absurd w
waiting_lengths a b tie f g (p ∷ ps) [] w = absurd w
waiting_lengths a b tie f g (p ∷ ps) (q ∷ qs) w = ap suc (waiting_lengths a b tie p.function q.function ps qs w.2)

entered_alike : (a b : System) (tie : Tie) (m n : Machine) (p q : Frame) (ps qs : List Frame) (f g : ℕ) (xs ys : List (Option Value)) (room : Bool) (cells others : Option (List (Option Value)))
    → m.arrays ≡ n.arrays → m.input ≡ n.input → m.output ≡ n.output → tie.Frames p q → Waiting a b tie p.function q.function ps qs → Called a b tie p q f g xs ys
    → a.enters f xs ≡ cells → b.enters g ys ≡ others
    → States a b tie (entered m p ps f room cells) (entered n q qs g room others)
entered_alike a b tie m n p q ps qs f g xs ys false cells others ar inp out r w c is was = tt
entered_alike a b tie m n p q ps qs f g xs ys true None others ar inp out r w c is was = tt
entered_alike a b tie m n p q ps qs f g xs ys true (Some cells) None ar inp out r w c is was =
    let e = c.enters cells is in absurd (none-some e.0 (sym was ∙ e.1))
entered_alike a b tie m n p q ps qs f g xs ys true (Some cells) (Some others) ar inp out r w c is was =
    let e = c.enters cells is in
    let same : e.0 ≡ others = cc in
    record { arrays = ar; input = inp; output = out; frames = (subst (λ x. tie.Frames (fresh f cells) (fresh g x)) same e.2, (r, c.resumes, w)) }

applied_alike : (a b : System) (tie : Tie) (m n : Machine) (p q : Frame) (ps qs : List Frame) (s t : Act)
    → m.arrays ≡ n.arrays → m.input ≡ n.input → m.output ≡ n.output → tie.Frames p q → Waiting a b tie p.function q.function ps qs
    → Stacks a b tie m.frames n.frames
    → Alike a b tie p q s t → States a b tie (applied a m p ps s) (applied b n q qs t)
applied_alike a b tie m n p q ps qs Fault t ar inp out r w st h = tt
applied_alike a b tie m n p q ps qs (Goes place s written) (Goes there t shown) ar inp out r w st h =
    record { arrays = h.arrays; input = h.input; output = ap₂ (λ x y. x ++ y) out h.writes; frames = (h.frames, w) }
applied_alike a b tie m n p q ps qs (Calls f xs) (Calls g ys) ar inp out r w st h =
    rw (waiting_lengths a b tie p.function q.function ps qs w)
    (entered_alike a b tie m n p q ps qs f g xs ys (nat_lt (suc (length qs)) most_frames) (a.enters f xs) (b.enters g ys) ar inp out r w h refl refl)
applied_alike a b tie m n p q [] [] (Leaves v) (Leaves u) ar inp out r w st h =
    (record { arrays = ar; input = inp; output = out; frames = st }, w v u h)
applied_alike a b tie m n p q (x ∷ ps) (y ∷ qs) (Leaves v) (Leaves u) ar inp out r w st h =
    record { arrays = ar; input = inp; output = out; frames = (w.1 v u h, w.2) }
applied_alike a b tie m n p q [] (y ∷ qs) (Leaves v) (Leaves u) ar inp out r w st h = absurd w
applied_alike a b tie m n p q (x ∷ ps) [] (Leaves v) (Leaves u) ar inp out r w st h = absurd w
applied_alike a b tie m n p q ps qs (Exits s) (Exits t) ar inp out r w st h = (record { arrays = ar; input = inp; output = out; frames = st }, h)
applied_alike a b tie m n p q ps qs _ _ ar inp out r w st h = absurd h

nexts_alike : (a b : System) (tie : Tie) → ActAlike a b tie → (m n : Machine) (ps qs : List Frame) → m.arrays ≡ n.arrays → m.input ≡ n.input → m.output ≡ n.output
    → Stacks a b tie m.frames n.frames → Stacks a b tie ps qs → States a b tie (next a m ps) (next b n qs)
nexts_alike a b tie local m n [] [] ar inp out all st = record { arrays = ar; input = inp; output = out; frames = all }
nexts_alike a b tie local m n [] (q ∷ qs) ar inp out all st = absurd st
nexts_alike a b tie local m n (p ∷ ps) [] ar inp out all st = absurd st
nexts_alike a b tie local m n (p ∷ ps) (q ∷ qs) ar inp out all st =
    applied_alike a b tie m n p q ps qs _ _ ar inp out st.0 st.1 all
    (subst (λ x. Alike a b tie p q (a.acts p.function p.place (store_of m p)) (b.acts q.function q.place (record { cells = q.components; arrays = x; input = n.input }))) ar
    (subst (λ x. Alike a b tie p q (a.acts p.function p.place (store_of m p)) (b.acts q.function q.place (record { cells = q.components; arrays = m.arrays; input = x }))) inp (local p q st.0 m.arrays m.input)))

steps_alike : (a b : System) (tie : Tie) → ActAlike a b tie → (s t : State) → States a b tie s t → States a b tie (step a s) (step b t)
steps_alike a b tie local (Undefined m f p) t h = tt
steps_alike a b tie local (Running m) (Running n) h = nexts_alike a b tie local m n m.frames n.frames h.arrays h.input h.output h.frames h.frames
steps_alike a b tie local (Running m) (Ended n t) h = absurd h
steps_alike a b tie local (Running m) (Undefined n f p) h = absurd h
steps_alike a b tie local (Ended m s) (Ended n t) h = h
steps_alike a b tie local (Ended m s) (Running n) h = absurd h
steps_alike a b tie local (Ended m s) (Undefined n f p) h = absurd h

-- the law, for any tie
pub runs_alike : (a b : System) (tie : Tie) → RunsTied a b tie
runs_alike a b tie local s t h zero = h
runs_alike a b tie local s t h (suc n) = steps_alike a b tie local (run a s n) (run b t n) (runs_alike a b tie local s t h n)
