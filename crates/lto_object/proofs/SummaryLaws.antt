-- Summaries: what is read is spelled so, and what is spelled so is read.
use Rattle.std.proofs.Common.{◌≡◌, ℕ, ◌+◌, ◌^◌, ◌<◌, ◌≤◌, Bool, List, [], ◌∷◌, ◌++◌, length, Option, Result, Ok, Err, refl, arith}
use Rattle.std.specs.Prelude.{IfOk}
use Rattle.std.specs.List.{flat_map, AllByRecursion}
use Rattle.cursors.proofs.Leb128Laws.{IsBytes}
use Rattle.gimple_ir.specs.declared.summary.JumpFunction.{JumpFunction}
use Rattle.gimple_ir.specs.declared.summary.EdgeArg.{EdgeArg}
use Rattle.gimple_ir.specs.declared.summary.Edge.{Edge}
use Rattle.gimple_ir.specs.declared.summary.ParamFacts.{ParamFacts}
use Rattle.gimple_ir.specs.declared.summary.Summary.{Summary}
use Rattle.gimple_ir.specs.declared.types.Module.{Module}
use Rattle.module_stream.specs.declared.bounds.BodyBounds.{BodyBounds}
use Rattle.module_stream.specs.declared.fault.StreamError.{StreamError}
use Rattle.module_stream.specs.Codes.{flag_table, flag_code}
use Rattle.module_stream.specs.Fields.{FitEach}
use Rattle.module_stream.specs.Readers.{GivesAll, coded, in_turn}
use Rattle.module_stream.proofs.Exact.{Exact, number_exact, coded_exact, both_exact, made_exact, counted_exact, whole_found, whole_again}
use Rattle.module_stream.proofs.Tables.{flag_rows}
use Rattle.module_stream.proofs.OperandLaws.{AreCounts}
use Rattle.module_stream.proofs.TurnLaws.{in_turn_exact}
use Rattle.module_stream.proofs.Inside.{Inside, number_inside, coded_inside, made_inside, both_inside, counted_inside, in_turn_inside, faults_within}
use Rattle.lto_object.specs.Bounds.{bounds_in, HasBounds}
use Rattle.lto_object.specs.SummaryStream.{argument_bytes, edge_bytes, facts_bytes, summary_bytes, summaries_bytes, FitsArgument, FitsEdge, FitsSummary, FitSummaries, argument_at, edge_at, facts_at, summary_at, summaries_within, read_summaries}
use Rattle.lto_object.proofs.BoundLaws.{all_counts}
use Rattle.lto_object.proofs.JumpLaws.{jump_exact, source_exact, jump_inside, source_inside}

abbrev flag : Exact (λ x. flag_code x ∷ []) (λ x. Unit {0}) (coded flag_table)
flag = coded_exact flag_code flag_table flag_rows

argument_exact : (b : BodyBounds) → Exact argument_bytes (FitsArgument b) (argument_at b)
unfolding argument_at
argument_exact b = made_exact (λ (x : JumpFunction × Option ℕ). record { jump = x.0; source = x.1 }) argument_bytes (FitsArgument b) (λ a. (a.jump, a.source))
    (both_exact (jump_exact b) (source_exact b))
    (record { spelled = λ x h. refl; fits = λ x h. record { jump = h.0; source = h.1 }; parts = λ a h. (h.jump, h.source); back = λ a h. refl })

edge_exact : (b : BodyBounds) → AreCounts b → Exact edge_bytes (FitsEdge b) (edge_at b)
unfolding edge_at
edge_exact b k = made_exact (λ (x : ℕ × (ℕ × (Bool × List EdgeArg))). record { statement = x.0; callee = x.1.0; assigns = x.1.1.0; args = x.1.1.1 }) edge_bytes (FitsEdge b) (λ e. (e.statement, (e.callee, (e.assigns, e.args))))
    (both_exact (number_exact (2 ^ 32) (omega arith)) (both_exact (number_exact b.functions k.functions) (both_exact flag (counted_exact (argument_exact b)))))
    (record {
      spelled = λ x h. refl;
      fits = λ x h. record { statement = h.0; callee = h.1.0; args = h.1.1.1 };
      parts = λ e h. (h.statement, (h.callee, (tt, h.args)));
      back = λ e h. refl;
    })

facts_exact : Exact facts_bytes (λ p. p.weight < 2 ^ 32) facts_at
unfolding facts_at
facts_exact = made_exact (λ (x : ℕ × Bool). record { weight = x.0; used_here = x.1 }) facts_bytes (λ p. p.weight < 2 ^ 32) (λ p. (p.weight, p.used_here))
    (both_exact (number_exact (2 ^ 32) (omega arith)) flag)
    (record { spelled = λ x h. refl; fits = λ x h. h.0; parts = λ p h. (h, tt); back = λ p h. refl })

pub summary_exact : (b : BodyBounds) → AreCounts b → Exact summary_bytes (FitsSummary b) (summary_at b)
unfolding summary_at
summary_exact b k = made_exact (λ (x : ℕ × (List ParamFacts × (List ℕ × List Edge))). record { code_bound = x.0; params = x.1.0; arrays = x.1.1.0; edges = x.1.1.1 }) summary_bytes (FitsSummary b) (λ s. (s.code_bound, (s.params, (s.arrays, s.edges))))
    (both_exact (number_exact (2 ^ 64) (omega arith)) (both_exact (counted_exact facts_exact) (both_exact (counted_exact (number_exact b.arrays k.arrays)) (counted_exact (edge_exact b k)))))
    (record {
      spelled = λ x h. refl;
      fits = λ x h. record { bound = h.0; params = h.1.0; arrays = h.1.1.0; edges = h.1.1.1 };
      parts = λ s h. (h.bound, (h.params, (h.arrays, h.edges)));
      back = λ s h. refl;
    })

-- ---- all of a module's

summaries_exact : (m : Module) → HasBounds m → Exact summaries_bytes (FitSummaries m) (in_turn summary_at (bounds_in m))
summaries_exact m h = in_turn_exact summary_exact (bounds_in m) (all_counts m h)

-- What is read is spelled so.
pub summaries_found : (m : Module) → HasBounds m → (bytes : List ℕ) (r : Result (List Summary) StreamError) → IsBytes bytes → GivesAll r (read_summaries m bytes) → IfOk r (λ ss. FitSummaries m ss × (bytes ≡ summaries_bytes ss))
unfolding summaries_within
summaries_found m h bytes r fits e = whole_found (summaries_exact m h) bytes r fits e

-- What is spelled so is read.
pub summaries_again : (m : Module) → HasBounds m → (ss : List Summary) → FitSummaries m ss → read_summaries m (summaries_bytes ss) ≡ Ok ss
unfolding summaries_within
summaries_again m h ss fits = whole_again (summaries_exact m h) ss fits

-- ---- faults lie within the bytes

argument_inside : (b : BodyBounds) → Inside (argument_at b)
unfolding argument_at
argument_inside b = made_inside _ (both_inside (jump_inside b) (source_inside b))

edge_inside : (b : BodyBounds) → Inside (edge_at b)
unfolding edge_at
edge_inside b = made_inside _
    (both_inside (number_inside (2 ^ 32)) (both_inside (number_inside b.functions) (both_inside (coded_inside flag_table) (counted_inside (argument_inside b)))))

facts_inside : Inside facts_at
unfolding facts_at
facts_inside = made_inside _ (both_inside (number_inside (2 ^ 32)) (coded_inside flag_table))

summary_inside : (b : BodyBounds) → Inside (summary_at b)
unfolding summary_at
summary_inside b = made_inside _
    (both_inside (number_inside (2 ^ 64)) (both_inside (counted_inside facts_inside) (both_inside (counted_inside (number_inside b.arrays)) (counted_inside (edge_inside b)))))

pub summaries_faults : (m : Module) (bytes : List ℕ) (e : ℕ) → read_summaries m bytes ≡ Err e → e ≤ length bytes
unfolding summaries_within
summaries_faults m bytes e h = faults_within (in_turn_inside summary_inside (bounds_in m)) bytes e h
