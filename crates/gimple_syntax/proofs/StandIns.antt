-- The stand-ins have no fitting types.
use Rattle.std.proofs.Common.{◌≡◌, ℕ, List, [], ◌∷◌, ◌++◌, Bool, true, false, refl, ◌&&◌}
use Rattle.std.specs.List.{list_all}
use Rattle.gimple_ir.specs.declared.types.ScalarType.{ScalarType}
use Rattle.gimple_ir.specs.declared.types.ScalarType.TheVariants.{Int, UnsignedInt, LongInt, LongUnsignedInt}
use Rattle.gimple_ir.specs.declared.types.ResultType.{ResultType}
use Rattle.gimple_ir.specs.declared.types.ResultType.TheVariants as returned
use Rattle.gimple_ir.specs.declared.types.Case.{Case}
use Rattle.gimple_ir.specs.Lattices.{same_type}
use Rattle.gimple_ir.specs.Statements.{Scope, types_fit}
use Rattle.gimple_syntax.specs.Statements.{other_type, ill_typed_switch, ill_typed_return}

last-fails : {X : Type 0} (t : X → Bool) (xs : List X) (x : X) → t x ≡ false → list_all t (xs ++ x ∷ []) ≡ false
last-fails t [] x e = rw e refl
last-fails t (y ∷ xs) x e = both (t y) (list_all t (xs ++ x ∷ [])) (last-fails t xs x e)
  where
    both : (a b : Bool) → b ≡ false → (a && b) ≡ false
    both true b e = e
    both false b e = refl

pub switch-fails : (s : Scope) (cases : List Case) (otherwise : ℕ) → types_fit s (ill_typed_switch cases otherwise) ≡ false
switch-fails s cases otherwise = last-fails _ cases _ refl

other-fails : (ty : ScalarType) → same_type ty (other_type ty) ≡ false
other-fails Int = refl
other-fails UnsignedInt = refl
other-fails LongInt = refl
other-fails LongUnsignedInt = refl

return-fails : (s : Scope) (r : ResultType) → s.function.result ≡ r → types_fit s (ill_typed_return r) ≡ false
return-fails s returned.Void e = rw e refl
return-fails s (returned.Scalar ty) e = rw e (other-fails ty)

pub returned-fails : (s : Scope) → types_fit s (ill_typed_return s.function.result) ≡ false
returned-fails s = return-fails s s.function.result refl
