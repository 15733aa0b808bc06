use Rattle.follow_laws.proofs.PatchLaws.{patched_is_direct, same_length}
use Rattle.follow_laws.proofs.NamedLaws.{own_names_patched, names_stand, place_has_name}
use Rattle.follow_laws.proofs.patched_is_direct.Goals as goal

pub returns-clause-words : goal.returns-clause-words
returns-clause-words c = patched_is_direct

pub returns-clause-own : goal.returns-clause-own
returns-clause-own c = own_names_patched

pub returns-clause-length : goal.returns-clause-length
returns-clause-length c = same_length

pub returns-clause-names : goal.returns-clause-names
returns-clause-names c = names_stand

pub returns-clause-place : goal.returns-clause-place
returns-clause-place c = place_has_name
