-- What is read of items without the bodies of functions.
use Rattle.std.proofs.Common.{◌≡◌, List, [], ◌∷◌, Result, Ok, Err, refl, sym, ap, subst}
use Rattle.gimple_ir.specs.declared.types.Linkage.{Linkage}
use Rattle.gimple_tokens.specs.Tokens.{Placed}
use Rattle.gimple_tokens.specs.Reading.{after_brace, SkipsPastBrace}
use Rattle.gimple_tokens.specs.Stops.{Stuck, Fails, GivesOr}
use Rattle.gimple_tokens.specs.declared.failure.Failure.{Failure}
use Rattle.gimple_tokens.specs.declared.failure.Failure.TheVariants.{NoMemory, Fault}
use Rattle.gimple_grammar.specs.Grammar.{◌>>=◌, got, then_by}
use Rattle.gimple_grammar.specs.Items.{body, head, ExternRest, extern_rest, extern_by, extern_made, external, with_linkage}
use Rattle.gimple_grammar.specs.Streams.{without_body, defined_outline, IfLeft, GivesShort}
use Rattle.gimple_grammar.specs.declared.syntax.Parameters.{Parameters}
use Rattle.gimple_grammar.specs.declared.syntax.Body.{Body}
use Rattle.gimple_grammar.specs.declared.syntax.Item.{Item}
use Rattle.gimple_grammar.specs.declared.parts.Head.{Head}
use Rattle.gimple_grammar.specs.declared.parts.Head.TheVariants as heads
use Rattle.gimple_grammar.specs.declared.parts.Defined.{Defined}
use Rattle.gimple_grammar.specs.declared.parts.Defined.TheVariants as defineds
use Rattle.gimple_grammar.proofs.Laws.{first-is, rest-is}
use Rattle.gimple_grammar.proofs.Braces.{Ends, body-ends}

-- ---- a body that is passed over

skipped-read : (x : Parameters) (before after : List Placed) → SkipsPastBrace before after → (b : Body) (rest : List Placed) → after_brace before ≡ rest → GivesShort (λ y. y.0) (Ok x) after (got {A = Parameters × Body} (x, b) rest)
skipped-read x before after skips b [] e = tt
skipped-read x before after skips b (p ∷ ts) e = ap (got x) (sym (skips p ts e))

skipped-cases : (x : Parameters) (before after : List Placed) → SkipsPastBrace before after → (read : Result (Body × List Placed) Stuck) → Ends before read → GivesShort (λ y. y.0) (Ok x) after (read >>= λ b. got {A = Parameters × Body} (x, b.0) b.1)
skipped-cases x before after skips (Ok b) e = skipped-read x before after skips b.0 b.1 e
skipped-cases x before after skips (Err s) e = tt

pub skipped : (x : Parameters) (before after : List Placed) → SkipsPastBrace before after → GivesShort (λ y. y.0) (Ok x) after (body.read before >>= λ b. got {A = Parameters × Body} (x, b.0) b.1)
skipped x before after skips = skipped-cases x before after skips (body.read before) (body-ends before)

-- ---- what is not read

-- what is no fault is no fault in another form
no-fault : {A B : Type 0} (e : Failure) (after : List Placed) (x : A) (y : B) (rest : List Placed) → IfLeft rest (GivesOr (Err e) after (got x rest)) → IfLeft rest (GivesOr (Err e) after (got y rest))
no-fault e after x y [] g = tt
no-fault NoMemory after x y (p ∷ ts) g = tt
no-fault (Fault k) after x y (p ∷ ts) g = absurd cc

pub short-fails : {A B C D : Type 0} (short : A → B) (make : A → C) (other : C → D) (e : Failure) (after : List Placed) (read : Result (A × List Placed) Stuck) → GivesShort short (Err e) after read
    → GivesShort other (Err e) after (read >>= λ x. got (make x.0) x.1)
short-fails short make other e after (Ok x) g = no-fault e after (short x.0) (other (make x.0)) x.1 g
short-fails short make other e after (Err s) g = tt

pub if-left : (ts : List Placed) (P : Type 0) → P → IfLeft ts P
if-left [] P x = tt
if-left (p ∷ ts) P x = x

pub fails-short : {A B : Type 0} (short : A → B) (e : Failure) (after : List Placed) (read : Result (A × List Placed) Stuck) → Fails e after read → GivesShort short (Err e) after read
fails-short short NoMemory after (Ok x) f = if-left x.1 (Unit {0}) tt
fails-short short (Fault k) after (Ok x) f = absurd cc
fails-short short e after (Err s) f = tt

-- ---- what is read, in another form

made-left : {A B : Type 0} (make : A → B) (x y : A) (z : B) (after rest : List Placed) → make x ≡ z → IfLeft rest (got x rest ≡ Ok (y, after)) → IfLeft rest (got z rest ≡ Ok (make y, after))
made-left make x y z after [] e g = tt
made-left make x y z after (p ∷ ts) e g = let is : (x ≡ y) × (p ∷ ts ≡ after) = (first-is x y (p ∷ ts) after g, rest-is x y (p ∷ ts) after g) in rw (← e, is.0, is.1) refl

pub short-made : {A B C D : Type 0} (short : A → B) (make : A → C) (other : C → D) (form : B → D) (y : B) (after : List Placed) (read : Result (A × List Placed) Stuck) → ((x : A) → form (short x) ≡ other (make x)) → GivesShort short (Ok y) after read
    → GivesShort other (Ok (form y)) after (read >>= λ x. got (make x.0) x.1)
short-made short make other form y after (Ok x) forms g = made-left form (short x.0) y (other (make x.0)) after x.1 (forms x.0) g
short-made short make other form y after (Err s) forms g = tt

linked-outline : (l : Linkage) (d : Defined) → with_linkage l (defined_outline d) ≡ without_body (with_linkage l d)
linked-outline l (defineds.Array a) = refl
linked-outline l (defineds.Function f b) = refl

-- the linkage stays
pub linked-short : (l : Linkage) (d : Defined) (after : List Placed) (read : Result (Defined × List Placed) Stuck) → GivesShort defined_outline (Ok d) after read → GivesShort without_body (Ok (with_linkage l d)) after (read >>= λ x. got (with_linkage l x.0) x.1)
linked-short l d after read g = short-made defined_outline (with_linkage l) without_body (with_linkage l) d after read (linked-outline l) g

-- ---- declarations have no body

abbrev ExternParts : Type 0
ExternParts = (h : Head) × ExternRest h

extern-whole : (h : Head) (x : ExternRest h) → extern_by h x ≡ without_body (extern_by h x)
extern-whole (heads.Array e n) x = refl
extern-whole (heads.Function r n) x = refl

extern-cases : (r : Result Item Failure) (after : List Placed) (read : Result (ExternParts × List Placed) Stuck) → GivesOr r after (read >>= λ x. got (extern_made x.0) x.1) → GivesShort without_body r after (read >>= λ x. got (extern_made x.0) x.1)
extern-cases r after (Ok x) g = if-left x.1 (GivesOr r after (got (without_body (extern_made x.0)) x.1)) (subst (λ (i : Item). GivesOr r after (got i x.1)) (extern-whole x.0.0 x.0.1) g)
extern-cases r after (Err s) g = tt

pub extern-short : (r : Result Item Failure) (after before : List Placed) → GivesOr r after (external.read before) → GivesShort without_body r after (external.read before)
unfolding external
extern-short r after before g = extern-cases r after ((then_by head extern_rest).read before) g
