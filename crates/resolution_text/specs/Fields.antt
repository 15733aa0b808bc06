-- The words of a line.
use Rattle.std.specs.Prelude.{ℕ, List, [], ◌∷◌, Option, Some, None, Bool, ◌&&◌, nat_lt, nat_le, length, codes, if◌then◌else◌}
use Rattle.std.specs.List.{list_all, find}
use Rattle.std.specs.Str.{bytes_eq}
use Rattle.std.specs.Str.Parse.{digits_value}
use Rattle.std.specs.Char.{digit_value}
use Rattle.resolution_text.specs.declared.resolution.Word.{Word}
use Rattle.resolution_text.specs.declared.resolution.Word.TheVariants.{Unknown, Undef, PrevailingDef, PrevailingDefIronly, PrevailingDefIronlyExp, PreemptedReg, PreemptedIr, ResolvedIr, ResolvedExec, ResolvedDyn}

abbrev pub is_hexadecimal : ℕ → Bool
is_hexadecimal byte = nat_lt (digit_value byte) 16

-- 1 to 16 hexadecimal digits
abbrev pub id_of : List ℕ → Option ℕ
id_of text = if nat_le 1 (length text) && nat_le (length text) 16 && list_all is_hexadecimal text then Some (digits_value 16 text) else None

abbrev pub spelling : Word → List ℕ
spelling Unknown = codes "UNKNOWN"
spelling Undef = codes "UNDEF"
spelling PrevailingDef = codes "PREVAILING_DEF"
spelling PrevailingDefIronly = codes "PREVAILING_DEF_IRONLY"
spelling PrevailingDefIronlyExp = codes "PREVAILING_DEF_IRONLY_EXP"
spelling PreemptedReg = codes "PREEMPTED_REG"
spelling PreemptedIr = codes "PREEMPTED_IR"
spelling ResolvedIr = codes "RESOLVED_IR"
spelling ResolvedExec = codes "RESOLVED_EXEC"
spelling ResolvedDyn = codes "RESOLVED_DYN"

abbrev pub all_words : List Word
all_words = Unknown ∷ Undef ∷ PrevailingDef ∷ PrevailingDefIronly ∷ PrevailingDefIronlyExp ∷ PreemptedReg ∷ PreemptedIr ∷ ResolvedIr ∷ ResolvedExec ∷ ResolvedDyn ∷ []

abbrev pub word_of : List ℕ → Option Word
word_of text = find (λ word. bytes_eq (spelling word) text) all_words
