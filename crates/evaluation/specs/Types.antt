-- Types: of values, of what is given, of what a run comes to, and of terms.
use Rattle.std.specs.Prelude.{ℕ, zero, suc, ◌<◌, ◌≡◌, List, [], ◌∷◌, length, get_or, Result, Ok, Err, Option, None, Some}
use Rattle.calculus.specs.Terms.{Term, Terms, literal, own, called, error, unary, binary, choice, default, none, also}
use Rattle.calculus.specs.declared.Value.{Value}
use Rattle.book.specs.Syntax.{Scope}
use Rattle.book.specs.References.{scope_at}
use Rattle.book.specs.Typing.{type_at, called_type_at, unary_type, binary_type, operand_type}
use Rattle.book.specs.declared.ValueType.{ValueType}
use Rattle.book.specs.declared.ValueType.TheVariants.{YesNo}
use Rattle.book.specs.declared.Variable.{Variable}
use Rattle.lists.specs.Writing.{value_type}
use Rattle.evaluation.specs.Run.{Entered, values, ended}
use Rattle.answers.specs.declared.Cause.{Cause}

abbrev pub HasType : ValueType → Value → Type 0
HasType t v = value_type v ≡ t

-- set, with a value of the type
abbrev pub Holds : ValueType → Option Value → Type 0
Holds t None = ⊥
Holds t (Some v) = HasType t v

-- not set, or with a value of the type
abbrev pub MayHold : ValueType → Option Value → Type 0
MayHold t None = Unit {0}
MayHold t (Some v) = HasType t v

-- place x of a list holds a value of the type
abbrev pub HoldsAt : ValueType → List Value → ℕ → Type 0
HoldsAt t [] x = ⊥
HoldsAt t (v ∷ vs) zero = HasType t v
HoldsAt t (v ∷ vs) (suc x) = HoldsAt t vs x

-- for each variable whether it is given, and what is given is of its type
abbrev pub Fitting : List Variable → List (Option Value) → Type 0
Fitting [] [] = Unit {0}
Fitting [] (g ∷ gs) = ⊥
Fitting (x ∷ xs) [] = ⊥
Fitting (x ∷ xs) (g ∷ gs) = MayHold x.holds g × Fitting xs gs

-- one value for each variable, of its type
abbrev pub ValuesFit : List Variable → List Value → Type 0
ValuesFit [] [] = Unit {0}
ValuesFit [] (v ∷ vs) = ⊥
ValuesFit (x ∷ xs) [] = ⊥
ValuesFit (x ∷ xs) (v ∷ vs) = HasType x.holds v × ValuesFit xs vs

-- an end, or a value of the type
abbrev pub OutcomeFits : ValueType → Result Value Cause → Type 0
OutcomeFits t (Ok v) = HasType t v
OutcomeFits t (Err c) = Unit {0}

-- an end, or one value for each variable, of its type
abbrev pub EnteredFits : List Variable → Entered → Type 0
EnteredFits xs (values vs n) = ValuesFit xs vs
EnteredFits xs (ended c n) = Unit {0}

-- a term is of a type, where P says it of own variables and Q of those of sub-scopes
unfoldable mutual
  pub Typed : (ℕ → ValueType → Type 0) → (ℕ → ℕ → ValueType → Type 0) → Term → ValueType → Type 0
  Typed P Q (literal v) t = HasType t v
  Typed P Q (own x) t = P x t
  Typed P Q (called k x) t = Q k x t
  Typed P Q (error c) t = Unit {0}
  Typed P Q (unary op a) t = Typed P Q a (unary_type op) × (unary_type op ≡ t)
  Typed P Q (binary op a b) t = (u : ValueType) × Typed P Q a (operand_type op u) × Typed P Q b (operand_type op u) × (binary_type op ≡ t)
  Typed P Q (choice c a b) t = Typed P Q c YesNo × Typed P Q a t × Typed P Q b t
  Typed P Q (default es j c) t = AllTyped P Q es t × Typed P Q j YesNo × Typed P Q c t

  pub AllTyped : (ℕ → ValueType → Type 0) → (ℕ → ℕ → ValueType → Type 0) → Terms → ValueType → Type 0
  AllTyped P Q none t = Unit {0}
  AllTyped P Q (also e es) t = Typed P Q e t × AllTyped P Q es t

-- a term of a scope: its variables are there, and of their types
abbrev pub OwnNamed : Scope → ℕ → ValueType → Type 0
OwnNamed s x t = (x < length s.variables) × (type_at s x ≡ t)

abbrev pub CalledNamed : List Scope → Scope → ℕ → ℕ → ValueType → Type 0
CalledNamed book s k x t =
    (k < length s.sub_scopes) × (x < length (scope_at book (get_or s.sub_scopes k 0)).variables) × (called_type_at book s k x ≡ t)

abbrev pub WellTyped : List Scope → Scope → Term → ValueType → Type 0
WellTyped book s = Typed (OwnNamed s) (CalledNamed book s)

abbrev pub AllWellTyped : List Scope → Scope → Terms → ValueType → Type 0
AllWellTyped book s = AllTyped (OwnNamed s) (CalledNamed book s)
