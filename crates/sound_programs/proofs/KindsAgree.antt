-- Where no fault leaves the kind of an expression open, it is the kind that the meaning gives it.
use Rattle.std.proofs.Common.{◌≡◌, ℕ, List, [], ◌∷◌, Bool, true, false, Option, None, Some, cond, refl, ap, ◌∙◌, arith}
use Rattle.std.specs.Prelude.{nat_eq, is_some, ⊤}
use Rattle.std.proofs.lemmas.Bool.{false≢true, eqb-true}
use Rattle.fort_arith.specs.declared.kind.Kind.{Kind}
use Rattle.fort_arith.specs.declared.kind.Kind.TheVariants.{I1, I2, I4, I8, Logical}
use Rattle.fort_arith.specs.declared.op.Intrinsic.{Intrinsic}
use Rattle.fort_arith.specs.declared.op.Intrinsic.TheVariants.{Abs, Int, Max, Min, Mod, Modulo, Sign, Size, Sum}
use Rattle.fort_arith.specs.Operators.{is_arithmetic}
use Rattle.fort_tree.specs.declared.expr.Unary.{Unary}
use Rattle.fort_tree.specs.declared.expr.Unary.TheVariants.{Plus, Minus, Not}
use Rattle.fort_tree.specs.Intrinsic.{intrinsic_named}
use Rattle.claw_meaning.specs.Syntax as plain
use Rattle.claw_meaning.specs.Syntax.{Text}
use Rattle.claw_meaning.specs.Scope.{Entity, Unknown, Variable, Constant, Procedure, decl_named}
use Rattle.claw_meaning.specs.Kinds as meant
use Rattle.sound_programs.specs.Placed.{Expr, Numeral, Boolean, Name, Reference, Signed, Binary, Paren, Subscripts, No_more, One, Section, bare, bare_subs}
use Rattle.sound_programs.specs.Kinding.{kind, kinds_in, kind_of_entity, kind_of_decl, kind_of_result, integer, greater_of, common_kind, first_kind, kind_by_bytes, kind_named_by, kind_of_int, kind_of_intrinsic, kind_of_reference, kind_of_sign}

-- ---- Kinds that are known

known_or : Kind → Option Kind → Kind
known_or k None = k
known_or k (Some j) = j

same_known : (j k : Kind) → Some j ≡ Some k → j ≡ k
unfolding known_or
same_known j k e = ap (known_or j) e

not_known : {A : Type 0} (k : Kind) → None ≡ Some k → A
not_known k e = absurd (false≢true (ap is_some e))

from_integer : (o : Option Kind) (k : Kind) → integer o ≡ Some k → o ≡ Some k
from_integer None k e = e
from_integer (Some I1) k e = e
from_integer (Some I2) k e = e
from_integer (Some I4) k e = e
from_integer (Some I8) k e = e
from_integer (Some Logical) k e = not_known k e

from_condition : (b : Bool) (o : Option Kind) (k : Kind) → cond b o None ≡ Some k → o ≡ Some k
from_condition true o k e = e
from_condition false o k e = not_known k e

from_common : (o : Option Kind) (rest : List (Option Kind)) (k : Kind) → common_kind (o ∷ rest) ≡ Some k → o ≡ Some k
from_common o [] k e = from_integer o k e
from_common o (p ∷ rest) k e = from_condition _ o k e

pub both_known : (a b : Option Kind) (k : Kind) → greater_of a b ≡ Some k → (i : Kind) × (j : Kind) × (a ≡ Some i) × (b ≡ Some j) × (meant.greater i j ≡ k)
both_known None b k e = not_known k e
both_known (Some i) None k e = not_known k e
both_known (Some i) (Some j) k e = (i, j, refl, refl, same_known (meant.greater i j) k e)

of_decl : (d : Option plain.Decl) (k : Kind) → kind_of_decl d ≡ Some k → meant.kind_of_decl d ≡ k
of_decl None k e = not_known k e
of_decl (Some d) k e = same_known d.kind k e

of_result : (x : Option Text) (v : plain.Unit) (k : Kind) → kind_of_result x v ≡ Some k → meant.kind_of_decl (decl_named v.decls (meant.result_name v.name x)) ≡ k
of_result None v k e = not_known k e
of_result (Some x) v k e = of_decl (decl_named v.decls x) k e

of_entity : (a : Entity) (k : Kind) → kind_of_entity a ≡ Some k → meant.kind_of_entity a ≡ k
of_entity Unknown k e = not_known k e
of_entity (Variable home d) k e = same_known d.kind k e
of_entity (Constant d) k e = same_known d.kind k e
of_entity (Procedure v) k e = of_result v.result v k e

-- ---- INT

of_bytes : (n : ℕ) (k : Kind) → kind_by_bytes n ≡ Some k → meant.kind_of_bytes n ≡ k
of_bytes n k e = first (nat_eq n 1) (nat_eq n 2) (nat_eq n 4) refl (nat_eq n 8) refl e
  where
    first : (one two four : Bool) → nat_eq n 4 ≡ four → (eight : Bool) → nat_eq n 8 ≡ eight → cond one (Some I1) (cond two (Some I2) (cond four (Some I4) (cond eight (Some I8) None))) ≡ Some k → cond one I1 (cond two I2 (cond eight I8 I4)) ≡ k
    first true two four p eight q e = same_known I1 k e
    first false true four p eight q e = same_known I2 k e
    first false false true p true q e = absurd (omega (arith, eqb-true n 4 p, eqb-true n 8 q))
    first false false true p false q e = same_known I4 k e
    first false false false p true q e = same_known I8 k e
    first false false false p false q e = not_known k e

of_second : (e : Expr) (rest : Subscripts) (k : Kind) → kind_named_by e ≡ Some k → meant.kind_of_bytes (meant.bytes_in (bare_subs (One e rest))) ≡ k
of_second (Numeral n None at) rest k h = of_bytes n k h
of_second (Numeral n (Some j) at) rest k h = not_known k h
of_second (Boolean b at) rest k h = not_known k h
of_second (Name x at) rest k h = not_known k h
of_second (Reference x subs at) rest k h = not_known k h
of_second (Signed sign e at) rest k h = not_known k h
of_second (Binary op a b) rest k h = not_known k h
of_second (Paren e at) rest k h = not_known k h

of_int : (args : Subscripts) (k : Kind) → kind_of_int args ≡ Some k → meant.kind_of_bytes (meant.bytes_in (meant.second (bare_subs args))) ≡ k
of_int No_more k h = same_known I4 k h
of_int (One e No_more) k h = same_known I4 k h
of_int (One e (One b rest)) k h = of_second b rest k h
of_int (One e (Section lower upper at rest)) k h = not_known k h
of_int (Section lower upper at rest) k h = not_known k h

-- ---- Expressions

module _ (entity : Text → Entity) where
  abbrev meant_kind : Text → Kind
  meant_kind x = meant.kind_of_entity (entity x)

  abbrev Agrees : Expr → Type 0
  Agrees e = (k : Kind) → kind entity e ≡ Some k → meant.kind_of meant_kind (bare e) ≡ k

  -- so does the first argument, where there is one
  abbrev FirstAgrees : Subscripts → Type 0
  FirstAgrees No_more = ⊤
  FirstAgrees (One e rest) = Agrees e
  FirstAgrees (Section lower upper at rest) = ⊤

  of_common : (args : Subscripts) → FirstAgrees args → (k : Kind) → common_kind (kinds_in entity args) ≡ Some k → meant.kind_of_first meant_kind (bare_subs args) ≡ k
  of_common No_more h k e = not_known k e
  of_common (One a rest) h k e = h k (from_common (kind entity a) (kinds_in entity rest) k e)
  of_common (Section lower upper at rest) h k e = not_known k (from_common None (kinds_in entity rest) k e)

  of_first : (args : Subscripts) → FirstAgrees args → (k : Kind) → first_kind (kinds_in entity args) ≡ Some k → meant.kind_of_first meant_kind (bare_subs args) ≡ k
  of_first No_more h k e = not_known k e
  of_first (One a rest) h k e = h k (from_integer (kind entity a) k e)
  of_first (Section lower upper at rest) h k e = not_known k e

  of_intrinsic : (which : Intrinsic) (args : Subscripts) → FirstAgrees args → (k : Kind) → kind_of_intrinsic which args (kinds_in entity args) ≡ Some k →
      meant.kind_of_intrinsic which (meant.kind_of_first meant_kind (bare_subs args)) (bare_subs args) ≡ k
  of_intrinsic Int args h k e = of_int args k e
  of_intrinsic Size args h k e = same_known I4 k e
  of_intrinsic Sum args h k e = of_first args h k e
  of_intrinsic Abs args h k e = of_common args h k e
  of_intrinsic Max args h k e = of_common args h k e
  of_intrinsic Min args h k e = of_common args h k e
  of_intrinsic Mod args h k e = of_common args h k e
  of_intrinsic Modulo args h k e = of_common args h k e
  of_intrinsic Sign args h k e = of_common args h k e

  of_reference : (which : Option Intrinsic) (x : Text) (args : Subscripts) → FirstAgrees args → (k : Kind) → kind_of_reference which (kind_of_entity (entity x)) args (kinds_in entity args) ≡ Some k →
      meant.kind_of_reference which (meant_kind x) (meant.kind_of_first meant_kind (bare_subs args)) (bare_subs args) ≡ k
  of_reference None x args h k e = of_entity (entity x) k e
  of_reference (Some which) x args h k e = of_intrinsic which args h k e

  of_sign : (sign : Unary) (e : Expr) → Agrees e → (k : Kind) → kind_of_sign sign (kind entity e) ≡ Some k → meant.kind_of_sign sign (meant.kind_of meant_kind (bare e)) ≡ k
  of_sign Plus e h k known = h k (from_integer (kind entity e) k known)
  of_sign Minus e h k known = h k (from_integer (kind entity e) k known)
  of_sign Not e h k known = same_known Logical k known

  of_operation : (arithmetic : Bool) (a b : Expr) → Agrees a → Agrees b → (k : Kind) → cond arithmetic (greater_of (integer (kind entity a)) (integer (kind entity b))) (Some Logical) ≡ Some k →
      cond arithmetic (meant.greater (meant.kind_of meant_kind (bare a)) (meant.kind_of meant_kind (bare b))) Logical ≡ k
  of_operation true a b ha hb k e =
      let r : (i : Kind) × (j : Kind) × (integer (kind entity a) ≡ Some i) × (integer (kind entity b) ≡ Some j) × (meant.greater i j ≡ k) = both_known (integer (kind entity a)) (integer (kind entity b)) k e in
      ap (λ i. meant.greater i (meant.kind_of meant_kind (bare b))) (ha r.0 (from_integer (kind entity a) r.0 r.2))
      ∙ (ap (meant.greater r.0) (hb r.1 (from_integer (kind entity b) r.1 r.3)) ∙ r.4)
  of_operation false a b ha hb k e = same_known Logical k e

  mutual
    pub kinds_agree : (e : Expr) → (k : Kind) → kind entity e ≡ Some k → meant.kind_of (λ x. meant.kind_of_entity (entity x)) (bare e) ≡ k
    kinds_agree (Numeral n suffix at) k h = same_known (meant.or_default suffix) k h
    kinds_agree (Boolean b at) k h = same_known Logical k h
    kinds_agree (Name x at) k h = of_entity (entity x) k h
    kinds_agree (Reference x subs at) k h = of_reference (intrinsic_named x) x subs (first_agrees subs) k h
    kinds_agree (Signed sign e at) k h = of_sign sign e (kinds_agree e) k h
    kinds_agree (Binary op a b) k h = of_operation (is_arithmetic op) a b (kinds_agree a) (kinds_agree b) k h
    kinds_agree (Paren e at) k h = kinds_agree e k h

    first_agrees : (args : Subscripts) → FirstAgrees args
    first_agrees No_more = tt
    first_agrees (One e rest) = kinds_agree e
    first_agrees (Section lower upper at rest) = tt
