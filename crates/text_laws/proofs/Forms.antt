-- Each statement, as its syntax, is read back from its text, and its first token stands in its line.
use Rattle.std.proofs.Common.{◌≡◌, ℕ, false, List, [], ◌∷◌, ◌++◌, Option, Some, None, refl, ap, ◌∙◌, append_assoc}
use Rattle.std.specs.Prelude.{map, codes}
use Rattle.std.specs.List.{flat_map, AllByRecursion}
use Rattle.std.proofs.lemmas.List.Concat.{flat_map-cons}
use Rattle.gimple_ir.specs.declared.types.BinaryOp.{BinaryOp}
use Rattle.gimple_ir.specs.Programs.{IsIdentifier}
use Rattle.gimple_tokens.specs.declared.token.Keyword.{Keyword}
use Rattle.gimple_tokens.specs.declared.token.Keyword.TheVariants as keyword
use Rattle.gimple_tokens.specs.declared.token.Mark.{Mark}
use Rattle.gimple_tokens.specs.declared.token.Mark.TheVariants as mark
use Rattle.gimple_tokens.specs.declared.numbers.NumberPlace.TheVariants as places
use Rattle.gimple_tokens.specs.Tokens.{Name, Word, Sign, Placed, placed, is_word_byte, sign_at, piece_at, tokens_from}
use Rattle.gimple_tokens.specs.Reading.{line_of}
use Rattle.gimple_grammar.specs.Grammar.{Expected, Only, spellings}
use Rattle.gimple_grammar.specs.Pieces.{name, literal, operand}
use Rattle.gimple_grammar.specs.Statements.{tail, branches, condition, case_label, cases, selection, returned, form}
use Rattle.gimple_grammar.specs.declared.syntax.Literal.{Literal}
use Rattle.gimple_grammar.specs.declared.syntax.Operand.{Operand}
use Rattle.gimple_grammar.specs.declared.syntax.Right.{Right}
use Rattle.gimple_grammar.specs.declared.syntax.Tail.TheVariants as tails
use Rattle.gimple_grammar.specs.declared.syntax.CaseLabel.{CaseLabel}
use Rattle.gimple_grammar.specs.declared.syntax.Form.{Form}
use Rattle.gimple_grammar.specs.declared.syntax.Form.TheVariants as forms
use Rattle.text_laws.specs.Syntax.{assigned_by}
use Rattle.text_laws.proofs.Spaced.{first_is, IsAlone, sign_text, sign}
use Rattle.text_laws.proofs.Names.{name_read, keyword_text, keyword_read}
use Rattle.text_laws.proofs.Pieces.{Reads, done, token_then, space_then, sign_then, sign_space_then, keyword_then, name_then, IsReadAs, part_then, place_text, IsField}
use Rattle.text_laws.proofs.Rights.{both_read, end_read, operation, operation_then, IsRightText, AreArguments}

-- ---- the first token is in the line

pub record Stands (es : List Expected) (line : ℕ) (text : List ℕ) (end : List Placed) : Type 0 where
  pub here : line_of (tokens_from line 0 text) ≡ line
  pub reads : Reads es line text end

sign_first : {es : List Expected} {end : List Placed} (line : ℕ) (m : Mark) (r : List ℕ) → IsAlone m → Reads es line r end → Stands (Only (Sign m) ∷ es) line (sign_text m ++ r) end
sign_first line m r alone h = record { here = ap line_of (sign line m r alone); reads = sign_then line m r alone h }

keyword_first : {es : List Expected} {end : List Placed} (line : ℕ) (k : Keyword) (r : List ℕ) → first_is is_word_byte r ≡ false → Reads es line r end → Stands (Only (Word k) ∷ es) line (keyword_text k ++ r) end
keyword_first line k r stop h = record { here = ap line_of (keyword_read line k r stop); reads = keyword_then line k r stop h }

name_first : {es : List Expected} {end : List Placed} (line : ℕ) (n r : List ℕ) → IsIdentifier n → first_is is_word_byte r ≡ false → Reads es line r end → Stands (Only (Name n) ∷ es) line (n ++ r) end
name_first line n r h stop after = record { here = ap line_of (name_read line n r h stop); reads = name_then line n r h stop after }

-- the text, up to its ";" or ":", is read as the form
abbrev pub IsFormText : Form → List ℕ → Type 0
IsFormText f text = (line : ℕ) (r : List ℕ) → Stands (form.spelling f) line (text ++ r) (tokens_from line 0 r)

-- ---- forms that begin with a keyword or a sign

pub empty_form : IsFormText forms.Empty (codes ";")
unfolding form
empty_form line r = sign_first line mark.Semicolon r tt (done line r)

pub goto_form : (n : List ℕ) → IsIdentifier n → IsFormText (forms.Goto n) (codes "goto " ++ (n ++ codes ";"))
unfolding form name
goto_form n h line r = rw (append_assoc n (codes ";") r) (keyword_first line keyword.Goto (32 ∷ (n ++ (59 ∷ r))) refl (space_then line (n ++ (59 ∷ r)) (name_then line n (59 ∷ r) h refl (end_read line r))))

pub bare_return : IsFormText (forms.Return None) (codes "return;")
unfolding form returned
bare_return line r = keyword_first line keyword.Return (59 ∷ r) refl (end_read line r)

pub return_form : (a : Operand) (ta : List ℕ) → IsReadAs (operand.spelling a) ta → IsFormText (forms.Return (Some a)) (codes "return " ++ (ta ++ codes ";"))
unfolding form returned
return_form a ta h line r = rw (append_assoc ta (codes ";") r) (keyword_first line keyword.Return (32 ∷ (ta ++ (59 ∷ r))) refl (space_then line (ta ++ (59 ∷ r)) (part_then line (operand.spelling a) ta (59 ∷ r) h refl (end_read line r))))

-- ---- conditions

abbrev branches_text : List ℕ → List ℕ → List ℕ
branches_text met missed = codes "goto " ++ (met ++ (codes "; else goto " ++ (missed ++ codes ";")))

branches_read : (met missed : List ℕ) → IsIdentifier met → IsIdentifier missed → (line : ℕ) (r : List ℕ) → Reads (branches.spelling (met, missed)) line (branches_text met missed ++ r) (tokens_from line 0 r)
unfolding branches name
branches_read met missed h k line r =
    let last = missed ++ (59 ∷ r) in
    rw (append_assoc met (codes "; else goto " ++ (missed ++ codes ";")) r, append_assoc missed (codes ";") r)
    (keyword_then line keyword.Goto (32 ∷ (met ++ (codes "; else goto " ++ last))) refl (space_then line (met ++ (codes "; else goto " ++ last)) (name_then line met (codes "; else goto " ++ last) h refl
    (sign_then line mark.Semicolon (codes " else goto " ++ last) tt (space_then line (codes "else goto " ++ last) (keyword_then line keyword.Else (codes " goto " ++ last) refl
    (space_then line (codes "goto " ++ last) (keyword_then line keyword.Goto (32 ∷ last) refl (space_then line last (name_then line missed (59 ∷ r) k refl (end_read line r)))))))))))

pub if_form : (a b : Operand) (op : BinaryOp) (met missed ta tb : List ℕ) → IsReadAs (operand.spelling a) ta → IsReadAs (operand.spelling b) tb → IsIdentifier met → IsIdentifier missed
    → IsFormText (forms.If (record { left = a; op = op; right = b; met = met; missed = missed })) (codes "if (" ++ (operation ta op tb ++ (codes ") " ++ branches_text met missed)))
unfolding form condition
if_form a b op met missed ta tb ha hb h k line r =
    let rest = branches_text met missed ++ r in
    rw (append_assoc (operation ta op tb) (codes ") " ++ branches_text met missed) r, append_assoc (operand.spelling b) (Only (Sign mark.CloseRound) ∷ []) (branches.spelling (met, missed)))
    (keyword_first line keyword.If (32 ∷ 40 ∷ (operation ta op tb ++ (41 ∷ 32 ∷ rest))) refl (space_then line (40 ∷ (operation ta op tb ++ (41 ∷ 32 ∷ rest))) (sign_then line mark.OpenRound (operation ta op tb ++ (41 ∷ 32 ∷ rest)) tt
    (operation_then a b op ta tb line (41 ∷ 32 ∷ rest) ha hb refl (sign_space_then line mark.CloseRound rest (branches_read met missed h k line r))))))

-- ---- switches

less : (line : ℕ) (r : List ℕ) → tokens_from line 0 (codes "<default" ++ r) ≡ placed (Sign mark.Less) line ∷ tokens_from line 0 (codes "default" ++ r)
unfolding tokens_from piece_at sign_at
less line r = refl

greater : (line : ℕ) (r : List ℕ) → tokens_from line 0 (62 ∷ 59 ∷ r) ≡ placed (Sign mark.Greater) line ∷ tokens_from line 0 (59 ∷ r)
unfolding tokens_from piece_at sign_at
greater line r = refl

abbrev pub case_text : List ℕ → List ℕ → List ℕ
case_text value label = codes ", case " ++ (value ++ (codes ": " ++ label))

abbrev labelled : Literal → List ℕ → CaseLabel
labelled l label = record { value = l; label = label }

case_then : {es : List Expected} {end : List Placed} (l : Literal) (value label : List ℕ) (line : ℕ) (r : List ℕ) → IsReadAs ((literal places.Literal).spelling l) value → IsIdentifier label → first_is is_word_byte r ≡ false
    → Reads es line r end → Reads (case_label.spelling (labelled l label) ++ es) line (case_text value label ++ r) end
unfolding case_label name
case_then {es = es} l value label line r h k stop next =
    let after = label ++ r in
    rw (append_assoc value (codes ": " ++ label) r, append_assoc ((literal places.Literal).spelling l ++ Only (Sign mark.Colon) ∷ []) (Only (Name label) ∷ []) es, append_assoc ((literal places.Literal).spelling l) (Only (Sign mark.Colon) ∷ []) (Only (Name label) ∷ es))
    (sign_space_then line mark.Comma (codes "case " ++ (value ++ (58 ∷ 32 ∷ after))) (keyword_then line keyword.Case (32 ∷ (value ++ (58 ∷ 32 ∷ after))) refl (space_then line (value ++ (58 ∷ 32 ∷ after))
    (part_then line ((literal places.Literal).spelling l) value (58 ∷ 32 ∷ after) h refl (sign_space_then line mark.Colon after (name_then line label r k stop next))))))

abbrev pub IsCaseRead : {X : Type 0} → (X → Literal) → (X → List ℕ) → (X → List ℕ) → X → Type 0
IsCaseRead value text label x = IsReadAs ((literal places.Literal).spelling (value x)) (text x) × IsIdentifier (label x)

cases_is : {X : Type 0} (text label : X → List ℕ) (x : X) (xs : List X) (r : List ℕ)
    → flat_map (λ y. case_text (text y) (label y)) (x ∷ xs) ++ r ≡ case_text (text x) (label x) ++ (flat_map (λ y. case_text (text y) (label y)) xs ++ r)
cases_is text label x xs r = ap (λ (l : List ℕ). l ++ r) (flat_map-cons (λ y. case_text (text y) (label y)) x xs) ∙ append_assoc (case_text (text x) (label x)) (flat_map (λ y. case_text (text y) (label y)) xs) r

cases_stop : {X : Type 0} (text label : X → List ℕ) (xs : List X) (r : List ℕ) → first_is is_word_byte (flat_map (λ y. case_text (text y) (label y)) xs ++ (62 ∷ r)) ≡ false
cases_stop text label [] r = refl
cases_stop text label (x ∷ xs) r = ap (first_is is_word_byte) (cases_is text label x xs (62 ∷ r))

cases_read : {X : Type 0} (value : X → Literal) (text label : X → List ℕ) (xs : List X) → AllByRecursion (IsCaseRead value text label) xs → (line : ℕ) (r : List ℕ)
    → Reads (spellings case_label (map (λ x. labelled (value x) (label x)) xs) ++ Only (Sign mark.Greater) ∷ Only (Sign mark.Semicolon) ∷ []) line (flat_map (λ y. case_text (text y) (label y)) xs ++ (62 ∷ 59 ∷ r)) (tokens_from line 0 r)
cases_read value text label [] h line r = token_then (Sign mark.Greater) line (62 ∷ 59 ∷ r) (59 ∷ r) (greater line r) (end_read line r)
cases_read value text label (x ∷ xs) h line r =
    rw (cases_is text label x xs (62 ∷ 59 ∷ r), append_assoc (case_label.spelling (labelled (value x) (label x))) (spellings case_label (map (λ y. labelled (value y) (label y)) xs)) (Only (Sign mark.Greater) ∷ Only (Sign mark.Semicolon) ∷ []))
    (case_then (value x) (text x) (label x) line (flat_map (λ y. case_text (text y) (label y)) xs ++ (62 ∷ 59 ∷ r)) h.0.0 h.0.1 (cases_stop text label xs (59 ∷ r)) (cases_read value text label xs h.1 line r))

abbrev switch_text : {X : Type 0} → List ℕ → List ℕ → (X → List ℕ) → (X → List ℕ) → List X → List ℕ
switch_text ta otherwise text label xs = codes "switch (" ++ (ta ++ (codes ") " ++ (codes "<default: " ++ (otherwise ++ (flat_map (λ y. case_text (text y) (label y)) xs ++ codes ">;")))))

pub switch_form : {X : Type 0} (a : Operand) (ta otherwise : List ℕ) (value : X → Literal) (text label : X → List ℕ) (xs : List X) → IsReadAs (operand.spelling a) ta → IsIdentifier otherwise → AllByRecursion (IsCaseRead value text label) xs
    → IsFormText (forms.Switch (record { on = a; otherwise = otherwise; cases = map (λ x. labelled (value x) (label x)) xs })) (switch_text ta otherwise text label xs)
unfolding form selection cases name
switch_form a ta otherwise value text label xs ha h hs line r =
    let many = flat_map (λ y. case_text (text y) (label y)) xs in
    let rest = many ++ (62 ∷ 59 ∷ r) in
    let choices = codes "<default: " ++ (otherwise ++ rest) in
    rw (
      append_assoc ta (codes ") " ++ (codes "<default: " ++ (otherwise ++ (many ++ codes ">;")))) r,
      append_assoc otherwise (many ++ codes ">;") r,
      append_assoc many (codes ">;") r,
      append_assoc (operand.spelling a) (Only (Sign mark.CloseRound) ∷ []) (Only (Sign mark.Less) ∷ Only (Word keyword.Default) ∷ Only (Sign mark.Colon) ∷ Only (Name otherwise) ∷ ((spellings case_label (map (λ x. labelled (value x) (label x)) xs) ++ Only (Sign mark.Greater) ∷ []) ++ Only (Sign mark.Semicolon) ∷ [])),
      append_assoc (spellings case_label (map (λ x. labelled (value x) (label x)) xs)) (Only (Sign mark.Greater) ∷ []) (Only (Sign mark.Semicolon) ∷ []),
    )
    (keyword_first line keyword.Switch (32 ∷ 40 ∷ (ta ++ (41 ∷ 32 ∷ choices))) refl (space_then line (40 ∷ (ta ++ (41 ∷ 32 ∷ choices))) (sign_then line mark.OpenRound (ta ++ (41 ∷ 32 ∷ choices)) tt
    (part_then line (operand.spelling a) ta (41 ∷ 32 ∷ choices) ha refl (sign_space_then line mark.CloseRound choices
    (token_then (Sign mark.Less) line choices (codes "default: " ++ (otherwise ++ rest)) (less line (codes ": " ++ (otherwise ++ rest)))
    (keyword_then line keyword.Default (58 ∷ 32 ∷ (otherwise ++ rest)) refl (sign_space_then line mark.Colon (otherwise ++ rest)
    (name_then line otherwise rest h (cases_stop text label xs (59 ∷ r)) (cases_read value text label xs hs line r))))))))))

-- ---- forms that begin with a name

pub label_form : (n : List ℕ) → IsIdentifier n → IsFormText (forms.Named n tails.Label) (n ++ codes ":")
unfolding form name tail
label_form n h line r = rw (append_assoc n (codes ":") r) (name_first line n (58 ∷ r) h refl (sign_then line mark.Colon r tt (done line r)))

pub call_form : (n : List ℕ) (args : List Operand) (ta : List ℕ) → IsIdentifier n → AreArguments args ta → IsFormText (forms.Named n (tails.Call args)) (n ++ (codes " (" ++ (ta ++ codes ");")))
unfolding form name tail
call_form n args ta h ha line r =
    rw (append_assoc n (codes " (" ++ (ta ++ codes ");")) r, append_assoc ta (codes ");") r)
    (name_first line n (32 ∷ 40 ∷ (ta ++ (41 ∷ 59 ∷ r))) h refl (space_then line (40 ∷ (ta ++ (41 ∷ 59 ∷ r))) (sign_then line mark.OpenRound (ta ++ (41 ∷ 59 ∷ r)) tt (both_read line (ta ++ (41 ∷ 59 ∷ r)) (59 ∷ r) (ha line (59 ∷ r)) (end_read line r)))))

pub store_form : (n : List ℕ) (a b : Operand) (ta tb : List ℕ) → IsIdentifier n → IsReadAs (operand.spelling a) ta → IsReadAs (operand.spelling b) tb
    → IsFormText (forms.Named n (tails.Store a b)) (n ++ (codes "[" ++ (ta ++ (codes "] = " ++ (tb ++ codes ";")))))
unfolding form name tail
store_form n a b ta tb h ha hb line r =
    let last = tb ++ (59 ∷ r) in
    rw (
      append_assoc n (codes "[" ++ (ta ++ (codes "] = " ++ (tb ++ codes ";")))) r,
      append_assoc ta (codes "] = " ++ (tb ++ codes ";")) r,
      append_assoc tb (codes ";") r,
      append_assoc (operand.spelling a) (Only (Sign mark.CloseSquare) ∷ []) (Only (Sign mark.Equals) ∷ (operand.spelling b ++ Only (Sign mark.Semicolon) ∷ [])),
    )
    (name_first line n (91 ∷ (ta ++ (codes "] = " ++ last))) h refl (sign_then line mark.OpenSquare (ta ++ (codes "] = " ++ last)) tt
    (part_then line (operand.spelling a) ta (codes "] = " ++ last) ha refl (sign_space_then line mark.CloseSquare (codes "= " ++ last) (sign_space_then line mark.Equals last (part_then line (operand.spelling b) tb (59 ∷ r) hb refl (end_read line r)))))))

-- a place, and what it is assigned
pub assigned_form : (n : List ℕ) (field : Option (List ℕ)) (x : Right) (text : List ℕ) → IsIdentifier n → IsField field → IsRightText x text → IsFormText (assigned_by n field x) (place_text n field ++ (codes " = " ++ text))
unfolding form name tail
assigned_form n None x text h f reads line r =
    rw (append_assoc n (codes " = " ++ text) r) (name_first line n (codes " = " ++ (text ++ r)) h refl (space_then line (codes "= " ++ (text ++ r)) (sign_space_then line mark.Equals (text ++ r) (reads line r))))
assigned_form n (Some field) x text h f reads line r =
    rw (append_assoc (n ++ (46 ∷ field)) (codes " = " ++ text) r, append_assoc n (46 ∷ field) (codes " = " ++ (text ++ r)))
    (name_first line n (46 ∷ (field ++ (codes " = " ++ (text ++ r)))) h refl (sign_then line mark.Dot (field ++ (codes " = " ++ (text ++ r))) tt
    (name_then line field (codes " = " ++ (text ++ r)) f refl (space_then line (codes "= " ++ (text ++ r)) (sign_space_then line mark.Equals (text ++ r) (reads line r))))))
