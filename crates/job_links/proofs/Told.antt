-- What follows from facts on what a store tells of its files.
use Rattle.std.proofs.Common.{◌≡◌, Option, Some, None, subst, sym}
use Rattle.std.specs.Prelude.{IfSome}
use Rattle.outer_files.specs.Outside.{WhereTold}

pub told_of : {A : Type 0} (Q : A → Type 0) (o : Option A) → ((h : A) → Q h) → IfSome o Q
told_of Q None f = tt
told_of Q (Some h) f = f h

pub told_1 : {A : Type 0} (P Q : A → Type 0) (o : Option A) → ((h : A) → P h → Q h) → IfSome o P → IfSome o Q
told_1 P Q None f p = tt
told_1 P Q (Some h) f p = f h p

pub told_2 : {A : Type 0} (P Q R : A → Type 0) (o : Option A) → ((h : A) → P h → Q h → R h) → IfSome o P → IfSome o Q → IfSome o R
told_2 P Q R None f p q = tt
told_2 P Q R (Some h) f p q = f h p q

pub told_3 : {A : Type 0} (P Q R S : A → Type 0) (o : Option A) → ((h : A) → P h → Q h → R h → S h) → IfSome o P → IfSome o Q → IfSome o R → IfSome o S
told_3 P Q R S None f p q r = tt
told_3 P Q R S (Some h) f p q r = f h p q r

-- what is told of a store that holds the same
pub told_there : {A : Type 0} (P : A → Type 0) (o between : Option A) → between ≡ o → IfSome between P → IfSome o P
told_there P o between same p = subst (λ (t : Option _). IfSome t P) same p

told_itself : {A : Type 0} (P : A → A → Type 0) (a : Option A) → ((x : A) → P x x) → WhereTold a a P
told_itself P None f = tt
told_itself P (Some x) f = f x

pub told_same : {A : Type 0} (P : A → A → Type 0) (a b : Option A) → b ≡ a → ((x : A) → P x x) → WhereTold a b P
told_same P a b same f = subst (λ (t : Option _). WhereTold a t P) (sym same) (told_itself P a f)

pub told_weaker : {A : Type 0} (P Q : A → A → Type 0) (a b : Option A) → ((x y : A) → P x y → Q x y) → WhereTold a b P → WhereTold a b Q
told_weaker P Q None None f h = tt
told_weaker P Q None (Some y) f h = h
told_weaker P Q (Some x) None f h = h
told_weaker P Q (Some x) (Some y) f h = f x y h

pub told_then : {A : Type 0} (P Q R : A → A → Type 0) (a b c : Option A) → ((x y z : A) → P x y → Q y z → R x z) → WhereTold a b P → WhereTold b c Q → WhereTold a c R
told_then P Q R None None None f g h = tt
told_then P Q R None None (Some z) f g h = h
told_then P Q R None (Some y) c f g h = absurd g
told_then P Q R (Some x) None c f g h = absurd g
told_then P Q R (Some x) (Some y) None f g h = h
told_then P Q R (Some x) (Some y) (Some z) f g h = f x y z g h

pub told_both : {A : Type 0} (P Q R : A → A → Type 0) (a b : Option A) → ((x y : A) → P x y → Q x y → R x y) → WhereTold a b P → WhereTold a b Q → WhereTold a b R
told_both P Q R None None f g h = tt
told_both P Q R None (Some y) f g h = h
told_both P Q R (Some x) None f g h = h
told_both P Q R (Some x) (Some y) f g h = f x y g h

-- what is told of the files as they were, where it is asked for
pub told_given : {A : Type 0} (P : A → Type 0) (Q : A → A → Type 0) (a b : Option A) → IfSome a P → WhereTold a b (λ x y. P x → Q x y) → WhereTold a b Q
told_given P Q None None p h = tt
told_given P Q None (Some y) p h = h
told_given P Q (Some x) None p h = h
told_given P Q (Some x) (Some y) p h = h p
