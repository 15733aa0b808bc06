-- What the code keeps while it makes a plan: the live functions, and the place of each function's version.
use Rattle.std.specs.Prelude.{◌≡◌, ℕ, List, Bool, length, map}
use Rattle.ipa_plan.specs.declared.numbering.Numbering.{Numbering}
use Rattle.ipa_plan.specs.Plans.{all_of, version_place}

-- one for each function
abbrev pub places_of : List Bool → List ℕ
places_of live = map (version_place live) (all_of (length live))

abbrev pub IsNumbering : Numbering → Type 0
IsNumbering numbering = numbering.places ≡ places_of numbering.live
