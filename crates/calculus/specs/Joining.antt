-- Joining: what two found exceptions come to together.
use Rattle.calculus.specs.declared.Value.{Value}
use Rattle.calculus.specs.declared.Joined.{Joined}
use Rattle.calculus.specs.declared.Joined.TheVariants.{Nothing, One, Many}

-- "write it as the nine cases of nothing, a value and many on each side" (paper 02, No. 2): what stands left was found first
abbrev pub join : Joined → Joined → Joined
join Nothing Nothing = Nothing
join Nothing (One v) = One v
join (One u) Nothing = One u
-- "two values give many where figure 10 raises" (paper 02, No. 2): the raise waits until every exception is evaluated, since "Where its text of 4.1
-- and its figure 10 differ, 4.1 decides" (paper 01)
join (One u) (One v) = Many
-- figure 10 of the source paper has no more cases: "'many' is ours" (paper 02, No. 2)
join Nothing Many = Many
join (One u) Many = Many
join Many Nothing = Many
join Many (One v) = Many
join Many Many = Many

-- the words of kind 39 (paper 01), each by itself: the third is what the first two join to
pub data Joins : Joined → Joined → Joined → Type 0 where
  -- "nothing with a gives a", on either side
  nothing_with : (a : Joined) → Joins Nothing a a
  with_nothing : (a : Joined) → Joins a Nothing a
  -- "two values .. give 'many'", of one type or of two
  two_values_case : (u v : Value) → Joins (One u) (One v) Many
  -- "'many' with anything, give 'many'", on either side
  many_with : (a : Joined) → Joins Many a Many
  with_many : (a : Joined) → Joins a Many Many
