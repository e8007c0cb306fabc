-- Joining two found exceptions.
--     joins, joins-only                       the nine cases give what the words of kind 39 give, and nothing else
--     join_nothing_left .. join-assoc         the laws of the join
-- Assumes nothing.
use mathlib.Core.Path.{◌≡◌, refl}
use Rattle.calculus.specs.Joining.{join, Joins, nothing_with, with_nothing, two_values_case, many_with, with_many}
use Rattle.calculus.specs.declared.Joined.{Joined}
use Rattle.calculus.specs.declared.Joined.TheVariants.{Nothing, One, Many}

pub join_nothing_left : (a : Joined) → join Nothing a ≡ a
join_nothing_left Nothing = refl
join_nothing_left (One v) = refl
join_nothing_left Many = refl

pub join_nothing_right : (a : Joined) → join a Nothing ≡ a
join_nothing_right Nothing = refl
join_nothing_right (One u) = refl
join_nothing_right Many = refl

pub join_many_left : (a : Joined) → join Many a ≡ Many
join_many_left Nothing = refl
join_many_left (One v) = refl
join_many_left Many = refl

pub join_many_right : (a : Joined) → join a Many ≡ Many
join_many_right Nothing = refl
join_many_right (One u) = refl
join_many_right Many = refl

-- "Each case gives what kind 39 gives"
pub joins : (a b : Joined) → Joins a b (join a b)
joins Nothing Nothing = nothing_with Nothing
joins Nothing (One v) = nothing_with (One v)
joins Nothing Many = nothing_with Many
joins (One u) Nothing = with_nothing (One u)
joins (One u) (One v) = two_values_case u v
joins (One u) Many = with_many (One u)
joins Many Nothing = many_with Nothing
joins Many (One v) = many_with (One v)
joins Many Many = many_with Many

pub joins_only : {a b c : Joined} → Joins a b c → join a b ≡ c
joins_only (nothing_with a) = join_nothing_left a
joins_only (with_nothing a) = join_nothing_right a
joins_only (two_values_case u v) = refl
joins_only (many_with a) = join_many_left a
joins_only (with_many a) = join_many_right a

pub join_assoc : (a b c : Joined) → join (join a b) c ≡ join a (join b c)
join_assoc Nothing b c = rw (join_nothing_left b, join_nothing_left (join b c))
join_assoc (One u) Nothing c = rw (join_nothing_left c)
join_assoc (One u) (One v) Nothing = refl
join_assoc (One u) (One v) (One w) = refl
join_assoc (One u) (One v) Many = refl
join_assoc (One u) Many c = rw (join_many_left c)
join_assoc Many b c = rw (join_many_left b, join_many_left c, join_many_left (join b c))
