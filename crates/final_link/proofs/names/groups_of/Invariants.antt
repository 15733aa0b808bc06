use Rattle.std.proofs.Common.{◌≡◌, ℕ, List, [], filter, map, take}
use Rattle.std.specs.Option.{option_map_or}
use Rattle.std.specs.Str.{bytes_eq}
use Rattle.std.specs.HashMap.{get_by}
use Rattle.final_link.proofs.names.groups_of.Given as goal

-- what stands under each name so far
abbrev pub invariant-loop-name : goal.invariant-loop-name
invariant-loop-name g l =
    (name : List ℕ) → option_map_or (λ v. v.items) (get_by (λ k. bytes_eq name k.now) l.groups) [] ≡ map (λ e. e.1) (filter (λ e. bytes_eq name e.0.now) (take l.name-index l.entries))
