-- The steps of a version act as the statements of its function do, on frames that stand for one another.
use Rattle.std.proofs.Common.{◌≡◌, ◌+◌, ℕ, ℤ, pos, List, [], ◌∷◌, map, Bool, true, false, true≢false, Some, None, refl, sym, ap, ◌∙◌, subst, inl}
use Rattle.std.specs.Prelude.{Option, if◌then◌else◌, is_some, slice_get, slice_set, option_map, unsigned_abs}
use Rattle.std.specs.List.{flat_map}
use Rattle.std.specs.Ordering.{int_eq}
use Rattle.std.proofs.lemmas.Option.{same_Some, slice_get-map}
use Rattle.gimple_ir.specs.Values.{unary_of, convert_of, value_of}
use Rattle.gimple_ir.specs.Statements.{component_types}
use Rattle.gimple_ir.specs.CodeBound.{components_of}
use Rattle.gimple_ir.specs.declared.types.ScalarType.{ScalarType}
use Rattle.gimple_ir.specs.declared.types.ScalarType.TheVariants.{Int}
use Rattle.gimple_ir.specs.declared.types.Operand.{Operand}
use Rattle.gimple_ir.specs.declared.types.Value.{Value}
use Rattle.gimple_ir.specs.declared.types.Arg.{Arg}
use Rattle.gimple_ir.specs.declared.types.Function.{Function}
use Rattle.gimple_ir.specs.declared.types.Program.{Program}
use Rattle.gimple_ir.specs.declared.types.Statement.{Statement}
use Rattle.gimple_ir.specs.declared.types.Statement.TheVariants.{Nop, Label, Goto, Cond, Switch, ReturnVoid, Return, Copy, Unary, Convert, Binary, Load, Store as StoreTo, CopyStruct, Call, Putchar, Getchar, Exit}
use Rattle.gimple_ir.specs.declared.summary.JumpFunction.{JumpFunction}
use Rattle.gimple_ir.specs.declared.summary.JumpFunction.TheVariants as jump
use Rattle.gimple_ir.specs.declared.plan.Version.{Version}
use Rattle.gimple_ir.specs.declared.plan.Plan.{Plan}
use Rattle.gimple_ir.specs.declared.merged.Merged.{Merged}
use Rattle.gimple_ir.specs.declared.versioned.Pair.{Pair}
use Rattle.gimple_ir.specs.declared.versioned.Step.{Step}
use Rattle.gimple_ir.specs.declared.versioned.Step.TheVariants as form
use Rattle.gimple_ir.specs.declared.versioned.VersionedFunction.{VersionedFunction}
use Rattle.gimple_meaning.specs.Acts.{Store, Act, Fault, Goes, Calls, Leaves, needing, low_byte, value_at, sets, copied, operation_of, case_label, element_type, element_at, loaded, stored, with_element, read_byte, unread}
use Rattle.gimple_meaning.specs.Systems.{Frame, moved, received, resumed}
use Rattle.gimple_meaning.specs.Source as source
use Rattle.gimple_meaning.specs.Source.{first_component, can_pass, effect, source_of}
use Rattle.gimple_meaning.specs.Steps as steps
use Rattle.gimple_meaning.specs.Steps.{act}
use Rattle.gimple_meaning.specs.LockStep.{Alike, Stepped, Called}
use Rattle.func_summary.specs.JumpFunctions as summary
use Rattle.func_summary.specs.JumpFunctions.{unary_jump, convert_jump, binary_jump, assigns, assignments_in, over_entry}
use Rattle.func_summary.specs.Summarised.{IsSummarised}
use Rattle.ipa_plan.specs.Rules.{Choice, kept_from, IsPlanned}
use Rattle.ipa_transform.specs.Versioned.{step_of, steps_of, picked, kept_of, operands_of}
use Rattle.program_link.specs.Versions.{member_of, version_in}
use Rattle.gimple_meaning.specs.Linked.{linked_step, linked_code, linked_codes, linked_system}
use Rattle.version_laws.specs.Linked.{linked}
use Rattle.version_laws.proofs.Lists.{mapped_at}
use Rattle.version_laws.proofs.Members.{In}
use Rattle.version_laws.proofs.Standing.{version_at, standing, version_same}
use Rattle.version_laws.proofs.Bodies.{types_same, calls_before, step_at, same_place, pairs_same}
use Rattle.version_laws.proofs.Uses.{Known, CallKnown, code_at}
use Rattle.version_laws.proofs.Knowing.{JumpGives, gives_copy, gives_unary, gives_convert, gives_binary, assigned_at, fields_assigned}
use Rattle.version_laws.proofs.Reading.{AliveOperand, Reads}
use Rattle.version_laws.proofs.Frames.{CellsAlike, VersionFrames, GivenBy, versions_tie, reads_alike, set_alike, pairs_alike, moved_alike}
use Rattle.version_laws.proofs.Entering.{entered}

-- ---- the step of a statement

-- before which n functions were called, with numbers for symbols
abbrev pub lowered : Program → Merged → Plan → Version → Function → ℕ → Statement → Step
lowered p merged plan v f n s = linked_step (linked p merged plan) (version_at p merged plan v f) (step_of (member_of p merged plan v f) n s)

lowered_at : (p : Program) (merged : Merged) (plan : Plan) (v : Version) (f : Function) (place : ℕ)
    → slice_get (code_at p merged plan v f).body place ≡ option_map (lowered p merged plan v f (calls_before 0 f.body place)) (slice_get f.body place)
lowered_at p merged plan v f place =
    slice_get-map (linked_step (linked p merged plan) (version_at p merged plan v f)) (steps_of (member_of p merged plan v f) 0 f.body) place
    ∙ ap (option_map (linked_step (linked p merged plan) (version_at p merged plan v f))) (step_at (member_of p merged plan v f) 0 f.body place)
    ∙ by (slice_get f.body place)
  where
    by : (o : Option Statement)
        → option_map (linked_step (linked p merged plan) (version_at p merged plan v f)) (option_map (step_of (member_of p merged plan v f) (calls_before 0 f.body place)) o)
        ≡ option_map (lowered p merged plan v f (calls_before 0 f.body place)) o
    by None = refl
    by (Some s) = refl

-- ---- where two frames stand

pub function_found : (p : Program) (merged : Merged) (plan : Plan) (choice : Choice) (q r : Frame) (k : VersionFrames p merged plan choice q r) → slice_get p.functions q.function ≡ Some k.function
function_found p merged plan choice q r k = ap (slice_get p.functions) (sym k.is) ∙ k.facts.here

pub code_found : (p : Program) (merged : Merged) (plan : Plan) (choice : Choice) (q r : Frame) (k : VersionFrames p merged plan choice q r)
    → slice_get (linked_codes (linked p merged plan)).functions r.function ≡ Some (code_at p merged plan k.version k.function)
code_found p merged plan choice q r k =
    mapped_at (linked_code (linked p merged plan)) (map (version_in p merged plan) plan.versions) r.function (version_in p merged plan k.version)
    (mapped_at (version_in p merged plan) plan.versions r.function k.version k.at)
    ∙ ap (λ (w : VersionedFunction). Some (linked_code (linked p merged plan) w)) (version_same p merged plan choice k.version k.function k.facts)

pub step_found : (p : Program) (merged : Merged) (plan : Plan) (choice : Choice) (q r : Frame) (k : VersionFrames p merged plan choice q r)
    → slice_get (code_at p merged plan k.version k.function).body r.place
    ≡ option_map (lowered p merged plan k.version k.function (calls_before 0 k.function.body q.place)) (slice_get k.function.body q.place)
step_found p merged plan choice q r k =
    lowered_at p merged plan k.version k.function r.place
    ∙ ap (λ (n : ℕ). option_map (lowered p merged plan k.version k.function (calls_before 0 k.function.body n)) (slice_get k.function.body n)) (sym k.place)

-- ---- acts of two frames

abbrev pub ActsAlike : Program → Merged → Plan → Choice → Frame → Frame → Act → Act → Type 0
ActsAlike p merged plan choice q r a b = Alike (source_of p) (linked_system (linked p merged plan)) (versions_tie p merged plan choice) q r a b

abbrev pub now : List (Option Value) → List (List ℤ) → List ℕ → Store
now cells arrays input = record { cells = cells; arrays = arrays; input = input }

needed : {T : Type 0} (p : Program) (merged : Merged) (plan : Plan) (choice : Choice) (q r : Frame) (x y : Option T) (g h : T → Act)
    → ((u : T) → x ≡ Some u → (y ≡ Some u) × ActsAlike p merged plan choice q r (g u) (h u)) → ActsAlike p merged plan choice q r (needing x g) (needing y h)
needed p merged plan choice q r None y g h alike = tt
needed {T} p merged plan choice q r (Some u) y g h alike =
    let both = alike u refl in
    subst (λ (z : Option T). ActsAlike p merged plan choice q r (g u) (needing z h)) (sym both.0) both.1

-- of one thing
same : {T : Type 0} (p : Program) (merged : Merged) (plan : Plan) (choice : Choice) (q r : Frame) (x : Option T) (g h : T → Act)
    → ((u : T) → x ≡ Some u → ActsAlike p merged plan choice q r (g u) (h u)) → ActsAlike p merged plan choice q r (needing x g) (needing x h)
same p merged plan choice q r x g h alike = needed p merged plan choice q r x x g h (λ u is. (is, alike u is))

-- of an operand that is read, and alive
reading : (p : Program) (merged : Merged) (plan : Plan) (choice : Choice) (q r : Frame) (k : VersionFrames p merged plan choice q r) (a : Operand) (g h : Value → Act) → AliveOperand k.version a
    → ((x : Value) → value_at q.components a ≡ Some x → ActsAlike p merged plan choice q r (g x) (h x))
    → ActsAlike p merged plan choice q r (needing (value_at q.components a) g) (needing (value_at r.components a) h)
reading p merged plan choice q r k a g h alive alike =
    needed p merged plan choice q r (value_at q.components a) (value_at r.components a) g h
    (λ x is. (reads_alike k.version k.function k.entry q.components r.components k.cells a x alive is, alike x is))

stepped : (p : Program) (merged : Merged) (plan : Plan) (choice : Choice) (q r : Frame) (k : VersionFrames p merged plan choice q r) (place there : ℕ) (xs ys : List (Option Value)) (arrays : List (List ℤ)) (input written : List ℕ)
    → place ≡ there → CellsAlike k.version k.function k.entry xs ys → Stepped (versions_tie p merged plan choice) q r place there (now xs arrays input) (now ys arrays input) written written
stepped p merged plan choice q r k place there xs ys arrays input written goes cells =
    record { arrays = refl; input = refl; writes = refl; frames = moved_alike p merged plan choice q r k place there xs ys goes cells }

-- nothing changes but the place
goes_on : (p : Program) (merged : Merged) (plan : Plan) (choice : Choice) (q r : Frame) (k : VersionFrames p merged plan choice q r) (arrays : List (List ℤ)) (input written : List ℕ)
    → Stepped (versions_tie p merged plan choice) q r (q.place + 1) (r.place + 1) (now q.components arrays input) (now r.components arrays input) written written
goes_on p merged plan choice q r k arrays input written =
    stepped p merged plan choice q r k (q.place + 1) (r.place + 1) q.components r.components arrays input written (ap (λ (n : ℕ). n + 1) k.place) k.cells

goes_to : (p : Program) (merged : Merged) (plan : Plan) (choice : Choice) (q r : Frame) (k : VersionFrames p merged plan choice q r) (arrays : List (List ℤ)) (input : List ℕ) (l : ℕ)
    → Stepped (versions_tie p merged plan choice) q r (source.place_of k.function.body l) (steps.place_of (code_at p merged plan k.version k.function).body l) (now q.components arrays input) (now r.components arrays input) [] []
goes_to p merged plan choice q r k arrays input l =
    stepped p merged plan choice q r k (source.place_of k.function.body l) (steps.place_of (code_at p merged plan k.version k.function).body l) q.components r.components arrays input []
    (sym (same_place (member_of p merged plan k.version k.function) (linked p merged plan) (version_at p merged plan k.version k.function) 0 l k.function.body)) k.cells

-- an assignment of the body
assigned : (p : Program) (merged : Merged) (plan : Plan) (choice : Choice) (q r : Frame) (k : VersionFrames p merged plan choice q r) (arrays : List (List ℤ)) (input : List ℕ) (s : Statement) (to : ℕ) (value : JumpFunction) (x : Value)
    → slice_get k.function.body q.place ≡ Some s → In (assigns to value) (assignments_in k.function s) → JumpGives (over_entry k.function value) k.entry x
    → (y : Option Value) → y ≡ Some x
    → Stepped (versions_tie p merged plan choice) q r (q.place + 1) (r.place + 1) (now (slice_set q.components to (Some x)) arrays input) (now (slice_set r.components to y) arrays input) [] []
assigned p merged plan choice q r k arrays input s to value x here member gives y is =
    stepped p merged plan choice q r k (q.place + 1) (r.place + 1) (slice_set q.components to (Some x)) (slice_set r.components to y) arrays input [] (ap (λ (n : ℕ). n + 1) k.place)
    (set_alike k.version k.function k.entry q.components r.components to (Some x) y value k.cells (λ u given. is ∙ given)
    (assigned_at k.function q.place s (assigns to value) here member) (λ u given. subst (λ (z : Value). JumpGives (over_entry k.function value) k.entry z) (same_Some x u given) gives))

-- ---- what a function gives

gives_same : (b : Bool) (x : Option Value) → GivenBy b x x
gives_same true x = refl
gives_same false x = tt

-- of a version that does not give its result nothing is owed
gives_nothing : (p : Program) (merged : Merged) (plan : Plan) (choice : Choice) (q r : Frame) (k : VersionFrames p merged plan choice q r) (x y : Option Value) → k.version.result ≡ false
    → (version : Version) → slice_get plan.versions r.function ≡ Some version → GivenBy version.result x y
gives_nothing p merged plan choice q r k x y kept version at =
    let own : k.version ≡ version = same_Some k.version version (sym k.at ∙ at) in
    subst (λ (b : Bool). GivenBy b x y) (sym kept ∙ ap (λ (v : Version). v.result) own) tt

returns : (p : Program) (merged : Merged) (plan : Plan) (choice : Choice) (q r : Frame) (k : VersionFrames p merged plan choice q r) (arrays : List (List ℤ)) (input : List ℕ) (a : Operand) → AliveOperand k.version a
    → (b : Bool) → k.version.result ≡ b
    → ActsAlike p merged plan choice q r (needing (value_at q.components a) (λ x. Leaves (Some x)))
    (act p.arrays (code_at p merged plan k.version k.function) r.place (now r.components arrays input) (form.Return (if b then Some a else None)))
returns p merged plan choice q r k arrays input a alive true kept =
    reading p merged plan choice q r k a _ _ alive (λ x is. λ version at. gives_same version.result (Some x))
returns p merged plan choice q r k arrays input a alive false kept = by (value_at q.components a)
  where
    by : (o : Option Value) → ActsAlike p merged plan choice q r (needing o (λ x. Leaves (Some x))) (Leaves None)
    by None = tt
    by (Some x) = gives_nothing p merged plan choice q r k (Some x) None kept

-- ---- calls

receives : (v : Version) (f : Function) (entry xs ys : List (Option Value)) (i : ℕ) (to : Option ℕ) (g : ℕ) (args : List Arg) → CellsAlike v f entry xs ys → slice_get f.body i ≡ Some (Call to g args)
    → (kept : Bool) → (is_some to ≡ true → kept ≡ true) → (x y : Option Value) → GivenBy kept x y → CellsAlike v f entry (received to x xs) (received to y ys)
receives v f entry xs ys i None g args cells here kept gives x y given = cells
receives v f entry xs ys i (Some c) g args cells here false gives x y given = absurd (true≢false (sym (gives refl)))
receives v f entry xs ys i (Some c) g args cells here true gives x y given =
    set_alike v f entry xs ys c x y jump.Unknown cells (λ u is. sym given ∙ is)
    (assigned_at f i (Call (Some c) g args) (assigns c jump.Unknown) here (inl refl)) (λ u is. tt)

called : (p : Program) (merged : Merged) (plan : Plan) → IsSummarised p merged → (planned : IsPlanned merged plan) → (q r : Frame) (k : VersionFrames p merged plan planned.choice q r) (n : ℕ) (to : Option ℕ) (g : ℕ) (args : List Arg)
    → slice_get k.function.body q.place ≡ Some (Call to g args) → (known : CallKnown p merged plan planned.choice k.version k.function n to g args)
    → Called (source_of p) (linked_system (linked p merged plan)) (versions_tie p merged plan planned.choice) q r g known.call.target
    (map (value_at q.components) (flat_map (source.operands_of k.function.variables) args))
    (map (value_at r.components) (picked (flat_map (source.operands_of k.function.variables) args) (kept_from 0 known.rules.target.bindings)))
called p merged plan summarised planned q r k n to g args here known = record {
  enters = entered p merged plan summarised planned k.version k.function n q.place g to args k.facts known here k.entry q.components r.components k.cells k.holds;
  resumes = λ x y given.
      subst (λ (o : Option ℕ). VersionFrames p merged plan planned.choice (moved q (q.place + 1) (received o x q.components)) (resumed (linked_system (linked p merged plan)) r y)) (sym first)
      (subst (λ (o : Option ℕ). VersionFrames p merged plan planned.choice (moved q (q.place + 1) (received to x q.components)) (moved r (r.place + 1) (received o y r.components))) (sym second)
      (moved_alike p merged plan planned.choice q r k (q.place + 1) (r.place + 1) (received to x q.components) (received to y r.components) (ap (λ (i : ℕ). i + 1) k.place)
      (receives k.version k.function k.entry q.components r.components q.place to g args k.cells here known.rules.target.result kept x y (given known.rules.target known.rules.there))));
}
  where
    first : (source_of p).receives q.function q.place ≡ to
    first = ap (λ (o : Option Function). source.target_at o q.place) (function_found p merged plan planned.choice q r k) ∙ ap source.target_of here

    second : (linked_system (linked p merged plan)).receives r.function r.place ≡ to
    second =
        ap (λ (o : Option steps.Code). steps.target_at o r.place) (code_found p merged plan planned.choice q r k)
        ∙ ap steps.target_of
        (step_found p merged plan planned.choice q r k ∙ ap (option_map (lowered p merged plan k.version k.function (calls_before 0 k.function.body q.place))) here)

    -- a result that is assigned is given
    kept : is_some to ≡ true → known.rules.target.result ≡ true
    kept assigns =
        (standing p merged plan summarised planned known.call.target known.rules.target known.rules.there).1.known.result
        ∙ ap planned.choice.results known.rules.callee ∙ known.rules.result assigns

calls : (p : Program) (merged : Merged) (plan : Plan) → IsSummarised p merged → (planned : IsPlanned merged plan) → (q r : Frame) (k : VersionFrames p merged plan planned.choice q r) (arrays : List (List ℤ)) (input : List ℕ) (n : ℕ) (to : Option ℕ) (g : ℕ) (args : List Arg)
    → slice_get k.function.body q.place ≡ Some (Call to g args) → (known : CallKnown p merged plan planned.choice k.version k.function n to g args) → (b : Bool)
    → ActsAlike p merged plan planned.choice q r
    (if b then Calls g (map (value_at q.components) (flat_map (source.operands_of k.function.variables) args)) else Fault)
    (act p.arrays (code_at p merged plan k.version k.function) r.place (now r.components arrays input) (lowered p merged plan k.version k.function n (Call to g args)))
calls p merged plan summarised planned q r k arrays input n to g args here known false = tt
calls p merged plan summarised planned q r k arrays input n to g args here known true =
    subst (λ (o : Option ℕ). ActsAlike p merged plan planned.choice q r first (needing o (λ h. Calls h (map (value_at r.components) passed)))) (sym known.named)
    (subst (λ (ops : List Operand). ActsAlike p merged plan planned.choice q r first (Calls known.call.target (map (value_at r.components) ops))) (sym known.passed)
    (called p merged plan summarised planned q r k n to g args here known))
  where
    first : Act
    first = Calls g (map (value_at q.components) (flat_map (source.operands_of k.function.variables) args))

    passed : List Operand
    passed =
        picked (flat_map (operands_of (member_of p merged plan k.version k.function).variables) args)
        (kept_of (member_of p merged plan k.version k.function).calls n)

-- ---- one statement

-- before which n functions were called
pub acts_alike : (p : Program) (merged : Merged) (plan : Plan) → IsSummarised p merged → (planned : IsPlanned merged plan) → (q r : Frame) (k : VersionFrames p merged plan planned.choice q r) (arrays : List (List ℤ)) (input : List ℕ) (n : ℕ) (s : Statement)
    → slice_get k.function.body q.place ≡ Some s → Known p merged plan planned.choice k.version k.function n s → Reads k.version k.function.variables s
    → ActsAlike p merged plan planned.choice q r (effect p.arrays k.function q.place (now q.components arrays input) s)
    (act p.arrays (code_at p merged plan k.version k.function) r.place (now r.components arrays input) (lowered p merged plan k.version k.function n s))
acts_alike p merged plan summarised planned q r k arrays input n Nop here known reads = goes_on p merged plan planned.choice q r k arrays input []
acts_alike p merged plan summarised planned q r k arrays input n (Label l) here known reads = goes_on p merged plan planned.choice q r k arrays input []
acts_alike p merged plan summarised planned q r k arrays input n (Goto l) here known reads = goes_to p merged plan planned.choice q r k arrays input l
acts_alike p merged plan summarised planned q r k arrays input n (Cond op a b met missed) here known reads =
    reading p merged plan planned.choice q r k a _ _ reads.0
    (λ x is. reading p merged plan planned.choice q r k b _ _ reads.1
    (λ y also. same p merged plan planned.choice q r (operation_of op x y) _ _
    (λ u gives. goes_to p merged plan planned.choice q r k arrays input (if int_eq u.num (pos 0) then missed else met))))
acts_alike p merged plan summarised planned q r k arrays input n (Switch a cases otherwise) here known reads =
    reading p merged plan planned.choice q r k a _ _ reads (λ x is. goes_to p merged plan planned.choice q r k arrays input (case_label cases x.num otherwise))
acts_alike p merged plan summarised planned q r k arrays input n ReturnVoid here known reads = λ version at. gives_same version.result None
acts_alike p merged plan summarised planned q r k arrays input n (Return a) here known reads =
    returns p merged plan planned.choice q r k arrays input a reads k.version.result refl
acts_alike p merged plan summarised planned q r k arrays input n (Copy to a) here known reads = by (value_at q.components a) refl
  where
    by : (o : Option Value) → value_at q.components a ≡ o
        → ActsAlike p merged plan planned.choice q r (needing o (λ u. sets q.place (now q.components arrays input) to u))
        (Goes (r.place + 1) (now (slice_set r.components to (value_at r.components a)) arrays input) [])
    by None is = tt
    by (Some x) is =
        assigned p merged plan planned.choice q r k arrays input (Copy to a) to (summary.copied a) x here (inl refl) (gives_copy k.function k.entry q.components a x k.cells.knows is)
        (value_at r.components a) (reads_alike k.version k.function k.entry q.components r.components k.cells a x reads is)
acts_alike p merged plan summarised planned q r k arrays input n (Unary to op a) here known reads =
    reading p merged plan planned.choice q r k a _ _ reads
    (λ x is. same p merged plan planned.choice q r (unary_of op x) _ _
    (λ u gives. assigned p merged plan planned.choice q r k arrays input (Unary to op a) to (unary_jump op a) u here (inl refl)
    (gives_unary k.function k.entry q.components op a x u k.cells.knows is gives) (Some u) refl))
acts_alike p merged plan summarised planned q r k arrays input n (Convert to a) here known reads =
    reading p merged plan planned.choice q r k a _ _ reads
    (λ x is. needed p merged plan planned.choice q r (slice_get (component_types k.function.variables) to) (slice_get (code_at p merged plan k.version k.function).types to) _ _
    (λ ty of. (
      ap (λ (types : List ScalarType). slice_get types to) (types_same k.function.variables) ∙ of,
      assigned p merged plan planned.choice q r k arrays input (Convert to a) to (convert_jump (slice_get (component_types k.function.variables) to) a) (convert_of ty x) here (inl refl)
          (subst (λ (o : Option ScalarType). JumpGives (over_entry k.function (convert_jump o a)) k.entry (convert_of ty x)) (sym of)
          (gives_convert k.function k.entry q.components ty a x k.cells.knows is)) (Some (convert_of ty x)) refl,
    )))
acts_alike p merged plan summarised planned q r k arrays input n (Binary to op a b) here known reads =
    reading p merged plan planned.choice q r k a _ _ reads.0
    (λ x is. reading p merged plan planned.choice q r k b _ _ reads.1
    (λ y also. same p merged plan planned.choice q r (operation_of op x y) _ _
    (λ u gives. assigned p merged plan planned.choice q r k arrays input (Binary to op a b) to (binary_jump op a b) u here (inl refl)
    (gives_binary k.function k.entry q.components op a b x y u k.cells.knows is also gives) (Some u) refl)))
acts_alike p merged plan summarised planned q r k arrays input n (Load to array a) here known reads =
    subst (λ (number : ℕ). ActsAlike p merged plan planned.choice q r (effect p.arrays k.function q.place (now q.components arrays input) (Load to array a))
    (act p.arrays (code_at p merged plan k.version k.function) r.place (now r.components arrays input) (form.Load to number a))) (sym known)
    (reading p merged plan planned.choice q r k a _ _ reads
    (λ x is. same p merged plan planned.choice q r (element_type p.arrays array) _ _
    (λ element of. same p merged plan planned.choice q r (element_at arrays array x.num) _ _
    (λ z at. assigned p merged plan planned.choice q r k arrays input (Load to array a) to jump.Unknown (loaded element z) here (inl refl) tt (Some (loaded element z)) refl))))
acts_alike p merged plan summarised planned q r k arrays input n (StoreTo array a b) here known reads =
    subst (λ (number : ℕ). ActsAlike p merged plan planned.choice q r (effect p.arrays k.function q.place (now q.components arrays input) (StoreTo array a b))
    (act p.arrays (code_at p merged plan k.version k.function) r.place (now r.components arrays input) (form.Store number a b))) (sym known)
    (reading p merged plan planned.choice q r k a _ _ reads.0
    (λ x is. reading p merged plan planned.choice q r k b _ _ reads.1
    (λ y also. same p merged plan planned.choice q r (element_type p.arrays array) _ _
    (λ element of. same p merged plan planned.choice q r (element_at arrays array x.num) _ _
    (λ z at. goes_on p merged plan planned.choice q r k (with_element arrays array (unsigned_abs x.num) (stored element y.num)) input [])))))
acts_alike p merged plan summarised planned q r k arrays input n (CopyStruct to from) here known reads =
    subst (λ (pairs : List Pair). ActsAlike p merged plan planned.choice q r (effect p.arrays k.function q.place (now q.components arrays input) (CopyStruct to from))
    (Goes (r.place + 1) (now (copied r.components pairs) arrays input) [])) (sym (pairs_same k.function.variables to from))
    (stepped p merged plan planned.choice q r k (q.place + 1) (r.place + 1) (copied q.components (source.struct_pairs k.function.variables to from))
    (copied r.components (source.struct_pairs k.function.variables to from)) arrays input [] (ap (λ (i : ℕ). i + 1) k.place)
    (pairs_alike k.version k.function k.entry q.components r.components (first_component k.function.variables to) (first_component k.function.variables from) (components_of k.function.variables from) k.cells
    reads (fields_assigned k.function q.place to from here)))
acts_alike p merged plan summarised planned q r k arrays input n (Call to g args) here known reads =
    calls p merged plan summarised planned q r k arrays input n to g args here known (can_pass q.components args)
acts_alike p merged plan summarised planned q r k arrays input n (Putchar a) here known reads =
    reading p merged plan planned.choice q r k a _ _ reads (λ x is. goes_on p merged plan planned.choice q r k arrays input (low_byte x.num ∷ []))
acts_alike p merged plan summarised planned q r k arrays input n (Getchar None) here known reads = goes_on p merged plan planned.choice q r k arrays (unread input) []
acts_alike p merged plan summarised planned q r k arrays input n (Getchar (Some to)) here known reads =
    assigned p merged plan planned.choice q r k arrays (unread input) (Getchar (Some to)) to jump.Unknown (value_of Int (read_byte input)) here (inl refl) tt (Some (value_of Int (read_byte input))) refl
acts_alike p merged plan summarised planned q r k arrays input n (Exit a) here known reads = reading p merged plan planned.choice q r k a _ _ reads (λ x is. refl)
