-- What is left after the first brace that closes, token by token.
use Rattle.std.proofs.Common.{◌≡◌, ℕ, zero, suc, ◌+◌, Bool, true, false, cond, List, [], ◌∷◌, take, drop, length, refl, sym, ◌∙◌, arith}
use Rattle.std.specs.Prelude.{◌&&◌, ◌==◌, nat_lt, codes, if◌then◌else◌}
use Rattle.std.specs.List.{prefix_len}
use Rattle.gimple_tokens.specs.declared.token.Keyword.{Keyword}
use Rattle.gimple_tokens.specs.declared.token.Keyword.TheVariants.{Int, Unsigned, Long, Char, Struct, Static, Extern, Weak, Void, If, Else, Goto, Switch, Case, Default, Return}
use Rattle.gimple_tokens.specs.declared.token.Mark.{Mark}
use Rattle.gimple_tokens.specs.declared.token.Mark.TheVariants.{Semicolon, Colon, Comma, Dot, Minus, Plus, Asterisk, Slash, Percent, Ampersand, VerticalBar, Caret, Tilde, Equals, EqualsEquals, NotEquals, Less, LessEquals, Greater, GreaterEquals, ShiftLeft, ShiftRight, OpenRound, CloseRound, OpenSquare, CloseSquare, OpenCurly, CloseCurly}
use Rattle.gimple_tokens.specs.declared.token.Suffix.TheVariants.{Plain, U, L, Ul}
use Rattle.gimple_tokens.specs.declared.token.TextKind.{TextKind}
use Rattle.gimple_tokens.specs.declared.token.TextKind.TheVariants.{Byte, Syntax, Literal}
use Rattle.gimple_tokens.specs.Tokens.{Lexeme, Name, Word, Number, Sign, End, Bad, Piece, Gap, Whole, Fault, Placed, ends, followed, passing, is_slash_first, is_comment_byte, is_word_byte, is_digit, is_space, is_bad, is_letter, one, if_next, small, value_of, same_text, suffix_at, suffix_len, word_of, word_at, number_at, sign_at, piece_at, tokens_from}
use Rattle.gimple_tokens.specs.Reading.{head_of, first_of, same, after_brace}

pub at_brace : (before after : List Placed) → before ≡ first_of before ∷ after → same (Sign CloseCurly) (head_of before) ≡ true → after_brace before ≡ after
unfolding after_brace
at_brace [] after e is = absurd cc
at_brace (p ∷ ts) after e is = rw is cc

pub before_brace : (p : Placed) (rest before : List Placed) → followed p rest ≡ before → ends (head_of before) ≡ false → same (Sign CloseCurly) (head_of before) ≡ false → after_brace before ≡ after_brace rest
unfolding after_brace
before_brace p rest [] e last is = absurd cc
before_brace p rest (x ∷ ts) e last is =
    let token : p ≡ x = cc in
    let all : (if ends p.token then [] else rest) ≡ ts = cc in
    let goes_on : ends p.token ≡ false = rw token last in
    let left : rest ≡ ts = rw goes_on at all in
    rw (is, left) refl

no-brace : (t : Lexeme) → ends t ≡ true → same (Sign CloseCurly) t ≡ false
no-brace End e = refl
no-brace (Bad kind) e = refl
no-brace (Name w) e = absurd cc
no-brace (Word k) e = absurd cc
no-brace (Number v s) e = absurd cc
no-brace (Sign m) e = absurd cc

pub without_brace : (before : List Placed) → before ≡ first_of before ∷ [] → ends (head_of before) ≡ true → after_brace before ≡ []
unfolding after_brace
without_brace [] e last = refl
without_brace (p ∷ ts) e last = let rest : ts ≡ [] = cc in rw (no-brace p.token last, rest) refl

pub none-left : {A : Type 0} {p : Placed} {ts : List Placed} → p ∷ ts ≡ [] → A
none-left e = absurd cc

-- ---- the same, byte by byte

-- How many of the bytes after this one belong to a comment that it begins.
abbrev pub comment_at : ℕ → List ℕ → ℕ
comment_at b bs = if b == 47 && is_slash_first bs then prefix_len is_comment_byte bs else 0

-- What is left after the first brace that closes and is in no comment, once so many bytes are passed over.
unfoldable pub scan : ℕ → ℕ → List ℕ → List Placed
scan line skip [] = []
scan line (suc n) (b ∷ bs) = scan line n bs
scan line zero (b ∷ bs) = if b == 125 then tokens_from line 0 bs else scan (if b == 10 then line + 1 else line) (comment_at b bs) bs

scan-skips : (line n : ℕ) (bs : List ℕ) → scan line n bs ≡ scan line 0 (drop n bs)
unfolding scan
scan-skips line zero bs = refl
scan-skips line (suc n) [] = refl
scan-skips line (suc n) (b ∷ bs) = scan-skips line n bs

pub scan_brace : (line b : ℕ) (bs text : List ℕ) → text ≡ b ∷ bs → b ≡ 125 → scan line 0 text ≡ tokens_from line 0 bs
unfolding scan
scan_brace line b bs text e is = rw (e, is) refl

pub scan_other : (line b : ℕ) (bs text : List ℕ) → text ≡ b ∷ bs → (b == 125) ≡ false → scan line 0 text ≡ scan (if b == 10 then line + 1 else line) 0 (drop (comment_at b bs) bs)
unfolding scan
scan_other line b bs text e brace = rw (e, brace) (scan-skips (if b == 10 then line + 1 else line) (comment_at b bs) bs)

pub scan_end : (line : ℕ) (text : List ℕ) → text ≡ [] → scan line 0 text ≡ []
unfolding scan
scan_end line text e = rw e refl

-- ---- bytes among which the scan neither stops nor counts

abbrev is_plain : ℕ → Bool
is_plain b = if b == 125 then false else if b == 47 then false else if b == 10 then false else true

abbrev are_plain : ℕ → List ℕ → Bool
are_plain zero bs = true
are_plain (suc n) [] = true
are_plain (suc n) (b ∷ bs) = is_plain b && are_plain n bs

plain-byte : (line : ℕ) (bs : List ℕ) (brace slash newline next : Bool) → (if brace then false else if slash then false else if newline then false else true) ≡ true
    → (if brace then tokens_from line 0 bs else scan (if newline then line + 1 else line) (if slash && next then prefix_len is_comment_byte bs else 0) bs) ≡ scan line 0 bs
plain-byte line bs true slash newline next e = absurd cc
plain-byte line bs false true newline next e = absurd cc
plain-byte line bs false false true next e = absurd cc
plain-byte line bs false false false next e = refl

scan-plain-byte : (line b : ℕ) (bs : List ℕ) → is_plain b ≡ true → scan line 0 (b ∷ bs) ≡ scan line 0 bs
unfolding scan
scan-plain-byte line b bs e = plain-byte line bs (b == 125) (b == 47) (b == 10) (is_slash_first bs) e

both : (a b : Bool) → (a && b) ≡ true → (a ≡ true) × (b ≡ true)
both true true e = (refl, refl)
both true false e = absurd cc
both false b e = absurd cc

scan-plain : (line n : ℕ) (bs : List ℕ) → are_plain n bs ≡ true → scan line n bs ≡ scan line 0 bs
unfolding scan
scan-plain line zero bs e = refl
scan-plain line (suc n) [] e = refl
scan-plain line (suc n) (b ∷ bs) e =
    let are = both (is_plain b) (are_plain n bs) e in
    scan-plain line n bs are.1 ∙ sym (scan-plain-byte line b bs are.0)

plain-more : (f : ℕ → Bool) (b : ℕ) (bs : List ℕ) (c : Bool) → (c ≡ true → is_plain b ≡ true) → are_plain (prefix_len f bs) bs ≡ true → are_plain (cond c (1 + prefix_len f bs) 0) (b ∷ bs) ≡ true
plain-more f b bs true h so_far = let next : 1 + prefix_len f bs ≡ suc (prefix_len f bs) = omega arith in rw (next, h refl) so_far
plain-more f b bs false h so_far = refl

plain-prefix : (f : ℕ → Bool) → ((b : ℕ) → f b ≡ true → is_plain b ≡ true) → (bs : List ℕ) → are_plain (prefix_len f bs) bs ≡ true
plain-prefix f h [] = refl
plain-prefix f h (b ∷ bs) = plain-more f b bs (f b) (h b) (plain-prefix f h bs)

plain-sum : (n m : ℕ) (bs : List ℕ) → are_plain n bs ≡ true → are_plain m (drop n bs) ≡ true → are_plain (n + m) bs ≡ true
plain-sum zero m bs e h = let same_sum : 0 + m ≡ m = omega arith in rw same_sum h
plain-sum (suc n) m [] e h = let next : suc n + m ≡ suc (n + m) = omega arith in rw next refl
plain-sum (suc n) m (b ∷ bs) e h =
    let are = both (is_plain b) (are_plain n bs) e in
    let next : suc n + m ≡ suc (n + m) = omega arith in
    rw (next, are.0) (plain-sum n m bs are.1 h)

u-plain : (b : ℕ) → (b == 117) ≡ true → is_plain b ≡ true
u-plain b e = grind (arith, e)

l-plain : (b : ℕ) → (b == 108) ≡ true → is_plain b ≡ true
l-plain b e = grind (arith, e)

one-suffix : (b : ℕ) (is_u is_l : Bool) → (b == 117) ≡ is_u → (b == 108) ≡ is_l → are_plain (suffix_len (if is_u then U else if is_l then L else Plain)) (b ∷ []) ≡ true
one-suffix b true is_l u l = rw (u-plain b u) refl
one-suffix b false true u l = rw (l-plain b l) refl
one-suffix b false false u l = refl

two-suffix : (b c : ℕ) (bs : List ℕ) (is_u then_l is_l : Bool) → (b == 117) ≡ is_u → (c == 108) ≡ then_l → (b == 108) ≡ is_l
    → are_plain (suffix_len (if is_u then (if then_l then Ul else U) else if is_l then L else Plain)) (b ∷ c ∷ bs) ≡ true
two-suffix b c bs true true is_l u next l = rw (u-plain b u, l-plain c next) refl
two-suffix b c bs true false is_l u next l = rw (u-plain b u) refl
two-suffix b c bs false then_l true u next l = rw (l-plain b l) refl
two-suffix b c bs false then_l false u next l = refl

plain-suffix : (bs : List ℕ) → are_plain (suffix_len (suffix_at bs)) bs ≡ true
plain-suffix [] = refl
plain-suffix (b ∷ []) = one-suffix b (b == 117) (b == 108) refl refl
plain-suffix (b ∷ c ∷ bs) = two-suffix b c bs (b == 117) (c == 108) (b == 108) refl refl refl

word-plain : (b : ℕ) → is_word_byte b ≡ true → is_plain b ≡ true
word-plain b e = grind (arith, e)

digit-plain : (b : ℕ) → is_digit b ≡ true → is_plain b ≡ true
digit-plain b e = grind (arith, e)

-- ---- the scan goes over a piece as the tokens do

Steps : ℕ → ℕ → List ℕ → Piece → Type 0
Steps line b bs (Gap n) = scan line 0 (b ∷ bs) ≡ scan (if b == 10 then line + 1 else line) n bs
Steps line b bs (Whole t n) = scan line 0 (b ∷ bs) ≡ (if same (Sign CloseCurly) t then tokens_from line n bs else scan line n bs)
Steps line b bs (Fault kind) = Unit {0}

-- ---- both meet the same brace

passed-token : (brace last : Bool) (rest : List Placed) (p : Placed) (ts : List Placed) → (if brace then (if last then [] else rest) else after_brace (if last then [] else rest)) ≡ p ∷ ts
    → (if brace then rest else after_brace rest) ≡ p ∷ ts
unfolding after_brace
passed-token brace false rest p ts e = e
passed-token true true rest p ts e = absurd cc
passed-token false true rest p ts e = absurd cc

met : (brace : Bool) (rest scanned : List Placed) (p : Placed) (ts : List Placed) → (after_brace rest ≡ p ∷ ts → scanned ≡ p ∷ ts) → (if brace then rest else after_brace rest) ≡ p ∷ ts
    → (if brace then rest else scanned) ≡ p ∷ ts
met true rest scanned p ts next e = e
met false rest scanned p ts next e = next e

stepped : (line b : ℕ) (bs : List ℕ) (pc : Piece) → Steps line b bs pc → ((at n : ℕ) (p : Placed) (ts : List Placed) → after_brace (tokens_from at n bs) ≡ p ∷ ts → scan at n bs ≡ p ∷ ts)
    → (p : Placed) (ts : List Placed) → after_brace (passing line b pc (λ at n. tokens_from at n bs)) ≡ p ∷ ts → scan line 0 (b ∷ bs) ≡ p ∷ ts
unfolding Steps after_brace
stepped line b bs (Gap n) step next p ts e = step ∙ next (if b == 10 then line + 1 else line) n p ts e
stepped line b bs (Whole t n) step next p ts e =
    let brace = same (Sign CloseCurly) t in
    step ∙ met brace (tokens_from line n bs) (scan line n bs) p ts (next line n p ts) (passed-token brace (ends t) (tokens_from line n bs) p ts e)
stepped line b bs (Fault kind) step next p ts e = absurd cc

whole : (line b n : ℕ) (t : Lexeme) (bs : List ℕ) → scan line 0 (b ∷ bs) ≡ scan line 0 bs → same (Sign CloseCurly) t ≡ false → are_plain n bs ≡ true → Steps line b bs (Whole t n)
unfolding Steps
whole line b n t bs here other plain = rw other (here ∙ sym (scan-plain line n bs plain))

fault-steps : (line b : ℕ) (bs : List ℕ) (kind : TextKind) → Steps line b bs (Fault kind)
unfolding Steps
fault-steps line b bs kind = tt

either-steps : (line b : ℕ) (bs : List ℕ) (x y : Piece) (is : Bool) → Steps line b bs x → Steps line b bs y → Steps line b bs (if is then x else y)
either-steps line b bs x y true hx hy = hx
either-steps line b bs x y false hx hy = hy

-- a word is no brace
IsOther : Lexeme → Type 0
IsOther t = same (Sign CloseCurly) t ≡ false

is-other : (t : Lexeme) → IsOther t → same (Sign CloseCurly) t ≡ false
unfolding IsOther
is-other t h = h

word-is : (k : Keyword) → IsOther (Word k)
unfolding IsOther
word-is k = refl

bad-is : (kind : TextKind) → IsOther (Bad kind)
unfolding IsOther
bad-is kind = refl

name-is : (w : List ℕ) → IsOther (Name w)
unfolding IsOther
name-is w = refl

either : (x y : Lexeme) (is : Bool) → IsOther x → IsOther y → IsOther (if is then x else y)
either x y true hx hy = hx
either x y false hx hy = hy

word-other : (w : List ℕ) → IsOther (word_of w)
unfolding word_of
word-other w =
    either _ _ (same_text w (codes "int")) (word-is Int) (
    either _ _ (same_text w (codes "unsigned")) (word-is Unsigned) (
    either _ _ (same_text w (codes "long")) (word-is Long) (
    either _ _ (same_text w (codes "char")) (word-is Char) (
    either _ _ (same_text w (codes "struct")) (word-is Struct) (
    either _ _ (same_text w (codes "static")) (word-is Static) (
    either _ _ (same_text w (codes "extern")) (word-is Extern) (
    either _ _ (same_text w (codes "weak")) (word-is Weak) (
    either _ _ (same_text w (codes "void")) (word-is Void) (
    either _ _ (same_text w (codes "if")) (word-is If) (
    either _ _ (same_text w (codes "else")) (word-is Else) (
    either _ _ (same_text w (codes "goto")) (word-is Goto) (
    either _ _ (same_text w (codes "switch")) (word-is Switch) (
    either _ _ (same_text w (codes "case")) (word-is Case) (
    either _ _ (same_text w (codes "default")) (word-is Default) (
    either _ _ (same_text w (codes "return")) (word-is Return) (
    either _ _ (nat_lt 255 (length w)) (bad-is Syntax) (name-is w)))))))))))))))))

word-steps : (line b : ℕ) (bs : List ℕ) → is_letter b ≡ true → Steps line b bs (word_at b bs)
unfolding word_at
word-steps line b bs e =
    let plain : is_plain b ≡ true = grind (arith, e) in
    let n = prefix_len is_word_byte bs in
    whole line b n (word_of (b ∷ take n bs)) bs (scan-plain-byte line b bs plain) (is-other _ (word-other (b ∷ take n bs))) (plain-prefix is_word_byte word-plain bs)

number-steps : (line b : ℕ) (bs : List ℕ) → is_digit b ≡ true → Steps line b bs (number_at b bs)
unfolding number_at
number-steps line b bs e =
    let n = prefix_len is_digit bs in
    let s = suffix_at (drop n bs) in
    let v = small (value_of (b ∷ take n bs)) in
    let plain = plain-sum n (suffix_len s) bs (plain-prefix is_digit digit-plain bs) (plain-suffix (drop n bs)) in
    either-steps line b bs _ _ (b == 48 && nat_lt 0 n) (fault-steps line b bs Literal)
    (whole line b (n + suffix_len s) (Number v s) bs (scan-plain-byte line b bs (digit-plain b e)) refl plain)

one-steps : (line b : ℕ) (bs : List ℕ) (m : Mark) → scan line 0 (b ∷ bs) ≡ scan line 0 bs → same (Sign CloseCurly) (Sign m) ≡ false → Steps line b bs (one m)
one-steps line b bs m here other = whole line b 0 (Sign m) bs here other refl

found-next : (line b c x : ℕ) (m : Mark) (bs : List ℕ) (other : Piece) (is : Bool) → (x == c) ≡ is → scan line 0 (b ∷ x ∷ bs) ≡ scan line 0 (x ∷ bs) → is_plain c ≡ true → same (Sign CloseCurly) (Sign m) ≡ false
    → Steps line b (x ∷ bs) other → Steps line b (x ∷ bs) (if is then Whole (Sign m) 1 else other)
found-next line b c x m bs other true e here plain differs h =
    let are : x ≡ c = grind (arith, e) in
    whole line b 1 (Sign m) (x ∷ bs) here differs (rw (are, plain) refl)
found-next line b c x m bs other false e here plain differs h = h

next-steps : (line b c : ℕ) (m : Mark) (bs : List ℕ) (other : Piece) → scan line 0 (b ∷ bs) ≡ scan line 0 bs → is_plain c ≡ true → same (Sign CloseCurly) (Sign m) ≡ false
    → Steps line b bs other → Steps line b bs (if_next c m bs other)
next-steps line b c m [] other here plain differs h = h
next-steps line b c m (x ∷ bs) other here plain differs h = found-next line b c x m bs other (x == c) refl here plain differs h

no-brace-steps : (line b : ℕ) (bs : List ℕ) (is : Bool) → is ≡ false → Steps line b bs (if is then one CloseCurly else Fault Syntax)
no-brace-steps line b bs true e = absurd cc
no-brace-steps line b bs false e = fault-steps line b bs Syntax

sign-steps : (line b : ℕ) (bs : List ℕ) → (b == 125) ≡ false → scan line 0 (b ∷ bs) ≡ scan line 0 bs → Steps line b bs (sign_at b bs)
unfolding sign_at
sign-steps line b bs brace here =
    let fault : Steps line b bs (Fault Syntax) = fault-steps line b bs Syntax in
    let sign : (m : Mark) → same (Sign CloseCurly) (Sign m) ≡ false → Steps line b bs (one m) = λ m differs. one-steps line b bs m here differs in
    let next : (c : ℕ) (m : Mark) (other : Piece) → is_plain c ≡ true → same (Sign CloseCurly) (Sign m) ≡ false → Steps line b bs other → Steps line b bs (if_next c m bs other) =
    λ c m other plain differs h. next-steps line b c m bs other here plain differs h in
    let pick : (x y : Piece) (is : Bool) → Steps line b bs x → Steps line b bs y → Steps line b bs (if is then x else y) = either-steps line b bs in
    pick _ _ (b == 59) (sign Semicolon refl) (
    pick _ _ (b == 58) (sign Colon refl) (
    pick _ _ (b == 44) (sign Comma refl) (
    pick _ _ (b == 46) (sign Dot refl) (
    pick _ _ (b == 45) (sign Minus refl) (
    pick _ _ (b == 43) (sign Plus refl) (
    pick _ _ (b == 42) (sign Asterisk refl) (
    pick _ _ (b == 47) (sign Slash refl) (
    pick _ _ (b == 37) (sign Percent refl) (
    pick _ _ (b == 38) (sign Ampersand refl) (
    pick _ _ (b == 124) (sign VerticalBar refl) (
    pick _ _ (b == 94) (sign Caret refl) (
    pick _ _ (b == 126) (sign Tilde refl) (
    pick _ _ (b == 61) (next 61 EqualsEquals (one Equals) refl refl (sign Equals refl)) (
    pick _ _ (b == 33) (next 61 NotEquals (Fault Syntax) refl refl fault) (
    pick _ _ (b == 60) (next 61 LessEquals (if_next 60 ShiftLeft bs (one Less)) refl refl (next 60 ShiftLeft (one Less) refl refl (sign Less refl))) (
    pick _ _ (b == 62) (next 61 GreaterEquals (if_next 62 ShiftRight bs (one Greater)) refl refl (next 62 ShiftRight (one Greater) refl refl (sign Greater refl))) (
    pick _ _ (b == 40) (sign OpenRound refl) (
    pick _ _ (b == 41) (sign CloseRound refl) (
    pick _ _ (b == 91) (sign OpenSquare refl) (
    pick _ _ (b == 93) (sign CloseSquare refl) (
    pick _ _ (b == 123) (sign OpenCurly refl) (
    no-brace-steps line b bs (b == 125) brace))))))))))))))))))))))

no-comment : (b : ℕ) (bs : List ℕ) → (b == 47) ≡ false → (b == 47 && is_slash_first bs) ≡ false
no-comment b bs e = rw e refl

gap-steps : (line b : ℕ) (bs : List ℕ) → (b == 125) ≡ false → Steps line b bs (Gap (comment_at b bs))
unfolding Steps scan
gap-steps line b bs brace = rw brace refl

space-steps : (line b : ℕ) (bs : List ℕ) → (b == 125) ≡ false → is_space b ≡ true → Steps line b bs (Gap 0)
space-steps line b bs brace e =
    let slash : (b == 47) ≡ false = grind (arith, e) in
    rw (no-comment b bs slash) at (gap-steps line b bs brace)

comment-steps : (line b : ℕ) (bs : List ℕ) → (b == 125) ≡ false → (b == 47 && is_slash_first bs) ≡ true → Steps line b bs (Gap (prefix_len is_comment_byte bs))
comment-steps line b bs brace e = rw e at (gap-steps line b bs brace)

plain-here : (line b : ℕ) (bs : List ℕ) → (b == 125) ≡ false → is_space b ≡ false → (b == 47 && is_slash_first bs) ≡ false → scan line 0 (b ∷ bs) ≡ scan line 0 bs
unfolding scan
plain-here line b bs brace space comment =
    let newline : (b == 10) ≡ false = grind (arith, space) in
    rw (brace, comment, newline) refl

pieces : (line b : ℕ) (bs : List ℕ) (is1 is2 is3 is4 is5 : Bool) (w n s : Piece) (c : ℕ) → (is1 ≡ true → Steps line b bs (Gap 0)) → (is3 ≡ true → Steps line b bs w) → (is4 ≡ true → Steps line b bs n) → (is5 ≡ true → Steps line b bs (Gap c))
    → (is1 ≡ false → is5 ≡ false → Steps line b bs s) → Steps line b bs (if is1 then Gap 0 else if is2 then Fault Byte else if is3 then w else if is4 then n else if is5 then Gap c else s)
pieces line b bs true is2 is3 is4 is5 w n s c h1 h3 h4 h5 h = h1 refl
pieces line b bs false true is3 is4 is5 w n s c h1 h3 h4 h5 h = fault-steps line b bs Byte
pieces line b bs false false true is4 is5 w n s c h1 h3 h4 h5 h = h3 refl
pieces line b bs false false false true is5 w n s c h1 h3 h4 h5 h = h4 refl
pieces line b bs false false false false true w n s c h1 h3 h4 h5 h = h5 refl
pieces line b bs false false false false false w n s c h1 h3 h4 h5 h = h refl refl

other-steps : (line b : ℕ) (bs : List ℕ) → (b == 125) ≡ false → Steps line b bs (piece_at b bs)
unfolding piece_at
other-steps line b bs brace =
    pieces line b bs (is_space b) (is_bad b) (is_letter b) (is_digit b) (b == 47 && is_slash_first bs) (word_at b bs) (number_at b bs) (sign_at b bs) (prefix_len is_comment_byte bs)
    (space-steps line b bs brace) (word-steps line b bs) (number-steps line b bs) (comment-steps line b bs brace)
    (λ space comment. sign-steps line b bs brace (plain-here line b bs brace space comment))

brace-steps : (line b : ℕ) (bs : List ℕ) → b ≡ 125 → Steps line b bs (piece_at b bs)
unfolding Steps scan piece_at sign_at
brace-steps line b bs e = rw e refl

either-way : (line b : ℕ) (bs : List ℕ) (is : Bool) → (b == 125) ≡ is → Steps line b bs (piece_at b bs)
either-way line b bs true e = let brace : b ≡ 125 = grind (arith, e) in brace-steps line b bs brace
either-way line b bs false e = other-steps line b bs e

steps : (line b : ℕ) (bs : List ℕ) → Steps line b bs (piece_at b bs)
steps line b bs = either-way line b bs (b == 125) refl

pub scan_meets : (line n : ℕ) (bs : List ℕ) (p : Placed) (ts : List Placed) → after_brace (tokens_from line n bs) ≡ p ∷ ts → scan line n bs ≡ p ∷ ts
unfolding scan tokens_from after_brace
scan_meets line n [] p ts e = absurd cc
scan_meets line (suc n) (b ∷ bs) p ts e = scan_meets line n bs p ts e
scan_meets line zero (b ∷ bs) p ts e = stepped line b bs (piece_at b bs) (steps line b bs) (λ at n p ts. scan_meets at n bs p ts) p ts e
