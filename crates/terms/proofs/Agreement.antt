-- What a term gives depends on its environment only through what it reads.
--     eval_agrees    environments that agree on what a term reads give the same outcome
--     each_read      what is so of every step that a term reads, as a fact of every read
--     read_both      of two facts of every read, a third that follows from them
-- Assumes nothing.
use Prim.Native.Nat.{ℕ, ◌+◌}
use mathlib.Core.Path.{◌≡◌, refl}
use mathlib.Core.Bool.{Bool, true, false, ◌||◌}
use borrow.Author.Tests.{eq-eqb}
use Rattle.std.specs.Prelude.{Result, Ok}
use Rattle.calculus.specs.Terms.{Term, Terms, literal, own, called, error, unary, binary, choice, default, none, also}
use Rattle.calculus.specs.Evaluation.{Env, eval, exceptions}
use Rattle.calculus.specs.declared.Joined.TheVariants.{Nothing}
use Rattle.book.specs.Steps.{reads, reads_any}
use Rattle.terms.specs.Agreement.{EachRead, EachReadIn, Agree}
use Rattle.answers.specs.declared.Cause.{Cause}
use Rattle.calculus.specs.declared.Joined.{Joined}

module _ (e f : Env) where
  abbrev AgreeIn : Terms → Type 0
  AgreeIn = EachReadIn (λ x. e.own x ≡ f.own x) (λ k x. e.called k x ≡ f.called k x)

  mutual
    unfolding eval exceptions EachRead EachReadIn

    pub eval_agrees : (t : Term) → Agree e f t → eval e t ≡ eval f t
    eval_agrees (literal v) h = refl
    eval_agrees (own x) h = rw h
    eval_agrees (called k x) h = rw h
    eval_agrees (error c) h = refl
    eval_agrees (unary op a) h = rw (eval_agrees a h)
    eval_agrees (binary op a b) h = rw (eval_agrees a h.0, eval_agrees b h.1)
    eval_agrees (choice c a b) h = rw (eval_agrees c h.0, eval_agrees a h.1, eval_agrees b h.2)
    eval_agrees (default es j c) h = rw (exceptions_agree (Ok Nothing) es h.0, eval_agrees j h.1, eval_agrees c h.2)

    exceptions_agree : (g : Result Joined Cause) (ts : Terms) → AgreeIn ts → exceptions e g ts ≡ exceptions f g ts
    exceptions_agree g none h = refl
    exceptions_agree g (also t ts) h = rw (eval_agrees t h.0) (exceptions_agree _ ts h.1)

or_left : (a b : Bool) → a ≡ true → (a || b) ≡ true
or_left a b h = rw h

or_right : (a b : Bool) → b ≡ true → (a || b) ≡ true
or_right true b h = refl
or_right false b h = h

-- where every step that is read has D, and D gives P of an own variable and Q of a sub-scope's; v is the number of own variables
module _ (v : ℕ) (D P : ℕ → Type 0) (Q : ℕ → ℕ → Type 0) (p : (x : ℕ) → D x → P x) (q : (k x : ℕ) → D (v + k) → Q k x) where
  mutual
    unfolding reads reads_any EachRead EachReadIn

    pub each_read : (t : Term) → ((w : ℕ) → reads v w t ≡ true → D w) → EachRead P Q t
    each_read (literal w) d = tt
    each_read (own x) d = p x (d x (eq-eqb x x refl))
    each_read (called k x) d = q k x (d (v + k) (eq-eqb (v + k) (v + k) refl))
    each_read (error c) d = tt
    each_read (unary op a) d = each_read a d
    each_read (binary op a b) d = (
      each_read a (λ w h. d w (or_left _ _ h)),
      each_read b (λ w h. d w (or_right (reads v w a) _ h)),
    )
    each_read (choice c a b) d = (
      each_read c (λ w h. d w (or_left _ _ h)),
      each_read a (λ w h. d w (or_right (reads v w c) _ (or_left _ _ h))),
      each_read b (λ w h. d w (or_right (reads v w c) _ (or_right (reads v w a) _ h))),
    )
    each_read (default es j c) d = (
      each_read_in es (λ w h. d w (or_left _ _ h)),
      each_read j (λ w h. d w (or_right (reads_any v w es) _ (or_left _ _ h))),
      each_read c (λ w h. d w (or_right (reads_any v w es) _ (or_right (reads v w j) _ h))),
    )

    each_read_in : (ts : Terms) → ((w : ℕ) → reads_any v w ts ≡ true → D w) → EachReadIn P Q ts
    each_read_in none d = tt
    each_read_in (also t ts) d = (
      each_read t (λ w h. d w (or_left _ _ h)),
      each_read_in ts (λ w h. d w (or_right (reads v w t) _ h)),
    )

-- where R follows from P and P', and S from Q and Q'
module _ (P P' R : ℕ → Type 0) (Q Q' S : ℕ → ℕ → Type 0) (p : (x : ℕ) → P x → P' x → R x)
    (q : (k x : ℕ) → Q k x → Q' k x → S k x) where
  mutual
    unfolding EachRead EachReadIn

    pub read_both : (t : Term) → EachRead P Q t → EachRead P' Q' t → EachRead R S t
    read_both (literal w) g h = tt
    read_both (own x) g h = p x g h
    read_both (called k x) g h = q k x g h
    read_both (error c) g h = tt
    read_both (unary op a) g h = read_both a g h
    read_both (binary op a b) g h = (read_both a g.0 h.0, read_both b g.1 h.1)
    read_both (choice c a b) g h = (read_both c g.0 h.0, read_both a g.1 h.1, read_both b g.2 h.2)
    read_both (default es j c) g h = (read_both_in es g.0 h.0, read_both j g.1 h.1, read_both c g.2 h.2)

    read_both_in : (ts : Terms) → EachReadIn P Q ts → EachReadIn P' Q' ts → EachReadIn R S ts
    read_both_in none g h = tt
    read_both_in (also t ts) g h = (read_both t g.0 h.0, read_both_in ts g.1 h.1)
