-- When a frame of a version stands for one of its function: the components that are alive have the values that are set in the function's
-- frame, which knows entry values of which the version's vector holds.
use Rattle.std.proofs.Common.{◌≡◌, ◌+◌, ◌<◌, ℕ, zero, suc, List, length, Bool, true, false, Some, refl, sym, ap, ◌∙◌, subst, arith}
use Rattle.std.specs.Prelude.{Option, slice_get, slice_set, nat_eq}
use Rattle.std.specs.Option.{option_map_or}
use Rattle.std.proofs.lemmas.Bool.Decides.{nat_tests}
use Rattle.gimple_ir.specs.declared.types.Operand.{Operand}
use Rattle.gimple_ir.specs.declared.types.Operand.TheVariants.{Component, Literal}
use Rattle.gimple_ir.specs.declared.types.Value.{Value}
use Rattle.gimple_ir.specs.declared.types.Function.{Function}
use Rattle.gimple_ir.specs.declared.types.Program.{Program}
use Rattle.gimple_ir.specs.declared.summary.JumpFunction.{JumpFunction}
use Rattle.gimple_ir.specs.declared.summary.JumpFunction.TheVariants as jump
use Rattle.gimple_ir.specs.declared.plan.Version.{Version}
use Rattle.gimple_ir.specs.declared.plan.Plan.{Plan}
use Rattle.gimple_ir.specs.declared.merged.Merged.{Merged}
use Rattle.gimple_meaning.specs.Acts.{cell, value_at, copied}
use Rattle.gimple_meaning.specs.Systems.{Frame, moved}
use Rattle.gimple_meaning.specs.Source.{pairs_from}
use Rattle.gimple_meaning.specs.LockStep.{Tie}
use Rattle.gimple_meaning.specs.Keeping.{FrameKept}
use Rattle.func_summary.specs.JumpFunctions.{assigns, assignments_of, over_entry}
use Rattle.ipa_plan.specs.Rules.{Choice}
use Rattle.program_link.proofs.VersionFacts.{VersionFacts}
use Rattle.version_laws.specs.States.{is_alive, versions_view}
use Rattle.version_laws.proofs.Named.{function_there}
use Rattle.version_laws.proofs.Members.{In}
use Rattle.version_laws.proofs.Cells.{cell-set_other, cell-set_same, cell-set_there, length-slice_set}
use Rattle.version_laws.proofs.Knowing.{Knows, Holds, JumpGives, knows_set, gives_copy}
use Rattle.version_laws.proofs.Reading.{AliveOperand}

-- ---- components

pub record CellsAlike (v : Version) (f : Function) (entry xs ys : List (Option Value)) : Type 0 where
  pub size : length xs ≡ length ys
  pub agree : (i : ℕ) (x : Value) → is_alive v i ≡ true → cell xs i ≡ Some x → cell ys i ≡ Some x
  pub knows : Knows f entry xs

pub reads_alike : (v : Version) (f : Function) (entry xs ys : List (Option Value)) → CellsAlike v f entry xs ys → (a : Operand) (x : Value) → AliveOperand v a → value_at xs a ≡ Some x → value_at ys a ≡ Some x
reads_alike v f entry xs ys c (Component i) x alive is = c.agree i x alive is
reads_alike v f entry xs ys c (Literal y) x alive is = is

-- after an assignment of the body, of what is the same where it is set
pub set_alike : (v : Version) (f : Function) (entry xs ys : List (Option Value)) (to : ℕ) (x y : Option Value) (value : JumpFunction) → CellsAlike v f entry xs ys
    → ((u : Value) → x ≡ Some u → y ≡ Some u) → In (assigns to value) (assignments_of f) → ((u : Value) → x ≡ Some u → JumpGives (over_entry f value) entry u)
    → CellsAlike v f entry (slice_set xs to x) (slice_set ys to y)
set_alike v f entry xs ys to x y value c same member gives = record {
  size = length-slice_set xs to x ∙ c.size ∙ sym (length-slice_set ys to y);
  agree = λ i u alive is. by i u alive (nat_eq i to) refl is;
  knows = knows_set f entry xs to x value c.knows member gives;
}
  where
    by : (i : ℕ) (u : Value) → is_alive v i ≡ true → (b : Bool) → nat_eq i to ≡ b → cell (slice_set xs to x) i ≡ Some u → cell (slice_set ys to y) i ≡ Some u
    by i u alive false test is =
        let other : i ≡ to → ⊥ = grind (arith, nat_tests) in
        cell-set_other ys to i y other ∙ c.agree i u alive (sym (cell-set_other xs to i x other) ∙ is)
    by i u alive true test is =
        let here : i ≡ to = grind (arith, nat_tests) in
        let there : cell (slice_set xs to x) to ≡ Some u = subst (λ (j : ℕ). cell (slice_set xs to x) j ≡ Some u) here is in
        subst (λ (j : ℕ). cell (slice_set ys to y) j ≡ Some u) (sym here) (cell-set_there xs ys to x y u c.size there ∙ same u (cell-set_same xs to x u there))

-- after a copy of fields that are alive, each of which is an assignment of the body
pub pairs_alike : (v : Version) (f : Function) (entry xs ys : List (Option Value)) (to from n : ℕ) → CellsAlike v f entry xs ys
    → ((j : ℕ) → j < n → is_alive v (from + j) ≡ true) → ((j : ℕ) → j < n → In (assigns (to + j) (jump.Pass (from + j))) (assignments_of f))
    → CellsAlike v f entry (copied xs (pairs_from to from n)) (copied ys (pairs_from to from n))
pairs_alike v f entry xs ys to from zero c alive member = c
pairs_alike v f entry xs ys to from (suc n) c alive member =
    let goes : to + 0 ≡ to = omega arith in
    let begins : from + 0 ≡ from = omega arith in
    let some : 0 < suc n = omega arith in
    let reads : is_alive v from ≡ true = ap (is_alive v) (sym begins) ∙ alive 0 some in
    let first : In (assigns to (jump.Pass from)) (assignments_of f) =
    subst (λ (i : ℕ). In (assigns i (jump.Pass from)) (assignments_of f)) goes (subst (λ (i : ℕ). In (assigns (to + 0) (jump.Pass i)) (assignments_of f)) begins (member 0 some)) in
    pairs_alike v f entry (slice_set xs to (cell xs from)) (slice_set ys to (cell ys from)) (to + 1) (from + 1) n
    (set_alike v f entry xs ys to (cell xs from) (cell ys from) (jump.Pass from) c (λ u is. c.agree from u reads is) first (λ u is. gives_copy f entry xs (Component from) u c.knows is))
    (λ j lt.
    let next : from + suc j ≡ from + 1 + j = omega arith in
    ap (is_alive v) (sym next) ∙ alive (suc j) (omega (arith, lt)))
    (λ j lt.
    let after : to + suc j ≡ to + 1 + j = omega arith in
    let next : from + suc j ≡ from + 1 + j = omega arith in
    subst (λ (i : ℕ). In (assigns i (jump.Pass (from + 1 + j))) (assignments_of f)) after
    (subst (λ (i : ℕ). In (assigns (to + suc j) (jump.Pass i)) (assignments_of f)) next (member (suc j) (omega (arith, lt)))))

-- ---- frames

pub record VersionFrames (p : Program) (merged : Merged) (plan : Plan) (choice : Choice) (q r : Frame) : Type 0 where
  pub version : Version
  pub at : slice_get plan.versions r.function ≡ Some version
  pub function : Function
  pub facts : VersionFacts p merged plan choice version function
  pub is : version.function ≡ q.function
  pub place : q.place ≡ r.place
  pub entry : List (Option Value)
  pub holds : Holds version.vector entry
  pub cells : CellsAlike version function entry q.components r.components

-- what a version gives, if it gives its result
abbrev pub GivenBy : Bool → Option Value → Option Value → Type 0
GivenBy true x y = x ≡ y
GivenBy false x y = Unit {0}

abbrev pub versions_tie : Program → Merged → Plan → Choice → Tie
versions_tie p merged plan choice = record {
  Frames = VersionFrames p merged plan choice;
  Gives = λ f g x y. (version : Version) → slice_get plan.versions g ≡ Some version → GivenBy version.result x y;
}

pub moved_alike : (p : Program) (merged : Merged) (plan : Plan) (choice : Choice) (q r : Frame) (k : VersionFrames p merged plan choice q r) (place there : ℕ) (xs ys : List (Option Value)) → place ≡ there
    → CellsAlike k.version k.function k.entry xs ys → VersionFrames p merged plan choice (moved q place xs) (moved r there ys)
moved_alike p merged plan choice q r k place there xs ys same c =
    record { version = k.version; at = k.at; function = k.function; facts = k.facts; is = k.is; place = same; entry = k.entry; holds = k.holds; cells = c }

-- such a frame is kept
pub frame_kept : (p : Program) (merged : Merged) (plan : Plan) (choice : Choice) (q r : Frame) → VersionFrames p merged plan choice q r → FrameKept (versions_view p plan) q r
frame_kept p merged plan choice q r k = record {
  function = sym (function_there p plan r.function k.version k.at ∙ k.is);
  place = k.place;
  components = λ i x keeps is. k.cells.agree i x (ap (λ (o : Option Version). option_map_or (λ (v : Version). is_alive v i) o true) (sym k.at) ∙ keeps) is;
}
