-- One turn of the search: the callees that have no mark yet are marked, and wait for their own turn.
use Rattle.std.specs.Prelude.{ℕ, List, [], ◌∷◌, ◌++◌, Bool, true, slice_set, if◌then◌else◌}
use Rattle.std.specs.List.{filter, range_with_len}
use Rattle.std.specs.Prelude.{length}
use Rattle.gimple_ir.specs.declared.summary.Edge.{Edge}
use Rattle.call_graph.specs.Live.{marked}

abbrev pub mark_one : ℕ → (List Bool × List ℕ) → (List Bool × List ℕ)
mark_one n s = if marked s.0 n then s else (slice_set s.0 n true, s.1 ++ n ∷ [])

abbrev pub mark_all : List Edge → (List Bool × List ℕ) → (List Bool × List ℕ)
mark_all [] s = s
mark_all (e ∷ es) s = mark_all es (mark_one e.callee s)

-- the numbers that are marked, ascending
abbrev pub places_of : List Bool → List ℕ
places_of flags = filter (marked flags) (range_with_len 0 (length flags))
