-- What a book is loaded from: an accepted book and its index.
--     sound, few-scopes, blank-links, unlinked, blank-memo     what the functions called ask for
--     world                              with its links and orders the book is loaded
--     laid_so                            what an indexed book asks for
--     refused_so, accepted_so            what preparing answers
-- Assumes nothing.
use Prim.Native.Nat.{ℕ, ◌*◌, ◌<◌, ◌≤◌}
use mathlib.Core.Path.{◌≡◌, sym, ap, subst, ◌∙◌}
use mathlib.Core.List.{List}
use native.Mathlib.Omega.{arith}
use lib.ListN.{length, replicate, length-replicate, get_or-replicate, take, drop}
use Rattle.std.specs.Prelude.{Result, Ok, Err}
use Rattle.answers.specs.declared.Fault.{Fault}
use Rattle.judge.specs.Verdict.{Loads}
use Rattle.book.specs.Decode.{scopes_of}
use Rattle.book.specs.References.{scope_at}
use Rattle.book.specs.Steps.{step_count, step_order}
use Rattle.book.specs.Judge.{judge}
use Rattle.index.specs.Index.{Laid}
use Rattle.acceptance.proofs.Acceptance.{accepted_faultless, accepted_count}
use Rattle.acceptance.proofs.Limits.{accepted_within, accepted_scopes}
use Rattle.links.specs.Links.{Sound, Blanks, AllLinked}
use Rattle.scopes.specs.Steps.{World}
use Rattle.scopes.specs.Known.{Known}
use Rattle.scopes.proofs.Known.{nothing_known}
use Rattle.loaded.specs.Loaded.{Prepared}

module _ {bytes index : List ℕ} {n : ℕ} (accepted : judge bytes ≡ Ok n) (laid : Laid bytes index) where
  total : n ≡ length (scopes_of bytes)
  total = accepted_count bytes n accepted

  pub sound : Sound bytes index
  sound =
      record {
        laid = laid;
        variables = λ j. (accepted_within bytes n accepted j).variables;
        sub_scopes = λ j. (accepted_within bytes n accepted j).sub_scopes;
        clauses = λ j. (accepted_within bytes n accepted j).clauses;
        named = (accepted_faultless bytes n accepted).named;
      }

  pub few_scopes : n ≤ 32
  few_scopes = accepted_scopes bytes n accepted

  -- links for m scopes at least, none of which is set
  pub blank_links : (m size : ℕ) → m * 834 ≤ size → Blanks bytes index m (replicate size 255)
  blank_links m size few =
      let long : length {A = ℕ} (replicate size 255) ≡ size = length-replicate {A = ℕ} size 255 in
      record {
        sound = sound;
        size = omega (arith, few, long);
        blank = λ k l. get_or-replicate {A = ℕ} size k 255 0 (omega (arith, few, l));
      }

  -- rows for n scopes at least, none of which is known
  pub blank_memo : (size : ℕ) → n * 33 ≤ size → Known bytes (replicate size 0)
  blank_memo size few = nothing_known bytes size (omega (arith, few, total))

  -- the book is loaded, once its links are filled
  pub world : {links orders : List ℕ} → AllLinked bytes n links
      → ((i : ℕ) → i < length (scopes_of bytes) → take (step_count (scope_at (scopes_of bytes) i)) (drop (i * 40) orders) ≡ step_order (scope_at (scopes_of bytes) i))
      → World bytes index links orders
  world linked ordered =
      record {
        accepted = accepted ∙ ap Ok total;
        sound = sound;
        linked = record { rows = λ j l. linked.rows j (omega (arith, total)) };
        step_orders = ordered;
      }

module _ {bytes index blocks weights orders : List ℕ} {r : Result ℕ Fault} (loads : Loads bytes index blocks weights orders (judge bytes) r) where
  pub refused_so : {links : List ℕ} {f : Fault} → r ≡ Err f → Prepared bytes index links orders (Err f)
  refused_so {links} {f} e = record { answer = sym e ∙ loads.answer; world = λ n d. cc }

  module _ {n : ℕ} (e : r ≡ Ok n) where
    -- the index is the book's
    pub laid_so : Laid bytes index
    laid_so = (loads.tables n e).laid

    is_accepted_lem : judge bytes ≡ Ok n
    is_accepted_lem = sym loads.answer ∙ e

    -- no link of so many scopes is set
    pub unlinked : (m : ℕ) {links : List ℕ} → m ≤ n → links ≡ replicate 26688 255 → Blanks bytes index m links
    unlinked m few same =
        subst (Blanks bytes index m) (sym same)
        (blank_links is_accepted_lem (loads.tables n e).laid m 26688 (omega (arith, few, few_scopes is_accepted_lem (loads.tables n e).laid)))

    pub accepted_so : {links : List ℕ} → AllLinked bytes n links → Prepared bytes index links orders (Ok n)
    accepted_so linked =
        record { answer = sym e ∙ loads.answer; world = λ m d. world is_accepted_lem (loads.tables n e).laid linked (loads.tables n e).step_orders }
