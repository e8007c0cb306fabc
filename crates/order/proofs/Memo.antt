-- Laws of what a search for the ready vertex leaves to the next one.
--     met_start    nothing is passed over
--     met_mark     one more vertex is done
--     met_trans    two searches, one after the other
--     start_here, start-other, same_rows     a row is read from w on
--     met_wait     row v is read from w on, where all that v depends on below w is done
--     met_next     the next vertex is the same
-- and of the vertices that rest below a vertex.
--     woken_set, woken-kept, woken-length    whom w wakes
--     rest_start    below 0 nothing is asked
--     rest_done     low is done too
--     rest_wait     v waits for w too
--     rest_mark     one more vertex is done: what it does not wake still rests
--     search_found, search-none, search-wait    the vertex at which a search stops is the next one; where it stops at none; where v waits
-- Assumes nothing.
use Prim.Native.Nat.{ℕ, ◌<◌, ◌≤◌, ◌+◌, ◌*◌}
use mathlib.Core.Path.{◌≡◌, refl, sym, ap, subst, ◌∙◌}
use mathlib.Core.Bool.{Bool, true, false, false≢true, ◌||◌, or-true}
use mathlib.Core.List.{List}
use mathlib.Core.Logic.{inl, inr, ⊎_elim}
use native.Mathlib.Omega.{arith}
use lib.ListN.{length, get_or, set, length-set}
use lib.Seq.{get_or-set_same, get_or-set_other}
use lib.Dec.{eqb, ltb}
use borrow.Author.Tests.{eqb-true, eqb-false, ltb-true, ltb-false, lt-ltb, le-ltb, eq-eqb, ne_eqb}
use Rattle.order.specs.Order.{unmet, ready, next}
use Rattle.order.specs.Matrix.{marked, linked, edge_of}
use Rattle.order.specs.Memo.{Met, Resting, woken_by}
use Rattle.laws.proofs.Booleans.{decide}
use Rattle.order.proofs.Search.{left_from, left_end, left_here}
use Rattle.order.proofs.Matrix.{marked_set, edge_passed, edge_linked}
use Rattle.order.proofs.Ready.{met_done, met_none, unmet_none, ready_now, ready_blocked, ready_done, next_unmet}

zero_linked : (deps : List ℕ) (v w : ℕ) → get_or deps (v * 40 + w) 0 ≡ 0 → linked deps v w ≡ true
unfolding linked
zero_linked deps v w e = eq-eqb (get_or deps (v * 40 + w) 0) 0 e

-- an edge is not passed over
edge_start : (deps : List ℕ) (v w : ℕ) → edge_of deps v w ≡ true → get_or deps (1600 + v) 0 ≤ w
edge_start deps v w e =
    ⊎_elim
    (λ (q : ltb w (get_or deps (1600 + v) 0) ≡ true).
    absurd (false≢true (sym (edge_passed deps v w (ltb-true w (get_or deps (1600 + v) 0) q)) ∙ e)))
    (λ (q : ltb w (get_or deps (1600 + v) 0) ≡ false). ltb-false w (get_or deps (1600 + v) 0) q)
    (decide (ltb w (get_or deps (1600 + v) 0)))

pub met_start : (deps : List ℕ) (n : ℕ) (done : List ℕ) → Met deps n done deps
met_start deps n done =
    record {
      long = refl;
      rows = λ v w a b. refl;
      later = λ v a. omega arith;
      kept = λ v w a b h e. let l = edge_start deps v w e in absurd (omega arith);
    }

module _ (from : List ℕ) (n : ℕ) (done to : List ℕ) (m : Met from n done to) where
  pub met_mark : (u : ℕ) → u < length done → Met from n (set done u 1) to
  met_mark u b =
      record {
        long = m.long;
        rows = m.rows;
        later = m.later;
        kept = λ v w a l h q. marked_set done u w b ∙ ap (λ (o : Bool). o || eqb w u) (m.kept v w a l h q);
      }

  still : (v w : ℕ) → v < n → w < n → get_or to (1600 + v) 0 ≤ w → edge_of to v w ≡ edge_of from v w
  still v w a b l =
      let e = m.later v a in
      edge_linked to v w l ∙ m.rows v w a b ∙ sym (edge_linked from v w (omega arith))

  pub met_trans : (end : List ℕ) → Met to n done end → Met from n done end
  met_trans end k =
      record {
        long = k.long ∙ m.long;
        rows = λ v w a b. k.rows v w a b ∙ m.rows v w a b;
        later = λ v a. let x = m.later v a in let y = k.later v a in omega arith;
        kept =
            λ v w a b h e.
            ⊎_elim
            (λ (q : ltb w (get_or to (1600 + v) 0) ≡ true). m.kept v w a b (ltb-true w (get_or to (1600 + v) 0) q) e)
            (λ (q : ltb w (get_or to (1600 + v) 0) ≡ false).
            k.kept v w a b h (still v w a b (ltb-false w (get_or to (1600 + v) 0) q) ∙ e))
            (decide (ltb w (get_or to (1600 + v) 0)));
      }

  same_unmet : (v w : ℕ) → edge_of to v w ≡ edge_of from v w
      → unmet (edge_of to) (marked done) v w ≡ unmet (edge_of from) (marked done) v w
  unfolding unmet
  same_unmet v w e = rw e refl

  pub met_next : next (edge_of to) n (marked done) ≡ next (edge_of from) n (marked done)
  met_next =
      next_unmet (edge_of to) (edge_of from) n (marked done)
      (λ v w a b.
      ⊎_elim
      (λ (q : ltb w (get_or to (1600 + v) 0) ≡ true).
      let l = ltb-true w (get_or to (1600 + v) 0) q in
      met_none (edge_of to) (marked done) v w (edge_passed to v w l)
      ∙ sym
      (⊎_elim
      (λ e. met_done (edge_of from) (marked done) v w (m.kept v w a b l e))
      (λ e. met_none (edge_of from) (marked done) v w e)
      (decide (edge_of from v w))))
      (λ (q : ltb w (get_or to (1600 + v) 0) ≡ false).
      same_unmet v w (still v w a b (ltb-false w (get_or to (1600 + v) 0) q)))
      (decide (ltb w (get_or to (1600 + v) 0))))

-- a row that is read from w on
module _ (deps : List ℕ) (v w : ℕ) (size : 1640 ≤ length deps) (l : v < 40) where
  pub start_here : get_or (set deps (1600 + v) w) (1600 + v) 0 ≡ w
  start_here = get_or-set_same deps (1600 + v) w 0 (omega arith)

  pub start_other : (u : ℕ) → (u ≡ v → ⊥) → get_or (set deps (1600 + v) w) (1600 + u) 0 ≡ get_or deps (1600 + u) 0
  start_other u d = get_or-set_other deps (1600 + v) (1600 + u) w 0 (λ e. d (omega arith))

  pub same_rows : (x y : ℕ) → x < 40 → y < 40 → linked (set deps (1600 + v) w) x y ≡ linked deps x y
  unfolding linked
  same_rows x y a b = rw (get_or-set_other deps (1600 + v) (x * 40 + y) w 0 (λ e. absurd (omega arith))) refl

  other_edge : (x y : ℕ) → (x ≡ v → ⊥) → x < 40 → y < 40 → edge_of (set deps (1600 + v) w) x y ≡ edge_of deps x y
  unfolding edge_of
  other_edge x y d a b = rw (start_other x d, same_rows x y a b) refl

  here_edge : w < 40 → linked deps v w ≡ true → edge_of (set deps (1600 + v) w) v w ≡ true
  here_edge b e = edge_linked (set deps (1600 + v) w) v w (omega (arith, start_here)) ∙ same_rows v w l b ∙ e

  module _ (n : ℕ) (done : List ℕ) (small : n ≤ 40) (inside : v < n) where
    pub met_wait : get_or deps (1600 + v) 0 ≤ w → ((u : ℕ) → u < w → unmet (edge_of deps) (marked done) v u ≡ false)
        → Met deps n done (set deps (1600 + v) w)
    met_wait low lacks =
        record {
          long = length-set deps (1600 + v) w;
          rows = λ x y a b. same_rows x y (omega arith) (omega arith);
          later =
              λ x a.
              ⊎_elim
              (λ (q : eqb x v ≡ true). let i : x ≡ v = eqb-true x v q in rw (i, start_here) low)
              (λ (q : eqb x v ≡ false). let o = start_other x (eqb-false x v q) in omega arith)
              (decide (eqb x v));
          kept =
              λ x y a b h e.
              ⊎_elim
              (λ (q : eqb x v ≡ true).
              let i : x ≡ v = eqb-true x v q in
              let h' : y < w = rw (i, start_here) at h in
              unmet_none (edge_of deps) (marked done) v y (lacks y h') (rw i at e))
              (λ (q : eqb x v ≡ false).
              let o = start_other x (eqb-false x v q) in
              let s = edge_start deps x y e in
              absurd (omega arith))
              (decide (eqb x v));
        }

pub rest_start : (deps : List ℕ) (n : ℕ) (done wakes : List ℕ) → Resting deps n done wakes 0
rest_start deps n done wakes = record { each = λ v h. absurd (omega arith) }

woken_here : (wakes : List ℕ) (v w : ℕ) → w < length wakes → get_or (woken_by wakes v w) w 0 ≤ v
unfolding woken_by
woken_here wakes v w l =
    ⊎_elim
    (λ (q : ltb v (get_or wakes w 0) ≡ true). rw q (let e = get_or-set_same wakes w v 0 l in omega arith))
    (λ (q : ltb v (get_or wakes w 0) ≡ false). rw q (ltb-false v (get_or wakes w 0) q))
    (decide (ltb v (get_or wakes w 0)))

woken_less : (wakes : List ℕ) (v w u : ℕ) → w < length wakes → get_or (woken_by wakes v w) u 0 ≤ get_or wakes u 0
unfolding woken_by
woken_less wakes v w u l =
    ⊎_elim
    (λ (q : ltb v (get_or wakes w 0) ≡ true).
    let less = ltb-true v (get_or wakes w 0) q in
    rw q
    (⊎_elim
    (λ (i : eqb u w ≡ true). let j : u ≡ w = eqb-true u w i in let e = get_or-set_same wakes w v 0 l in rw j (omega arith))
    (λ (i : eqb u w ≡ false). let e = get_or-set_other wakes w u v 0 (eqb-false u w i) in omega arith)
    (decide (eqb u w))))
    (λ (q : ltb v (get_or wakes w 0) ≡ false). rw q (omega arith))
    (decide (ltb v (get_or wakes w 0)))

pub woken_set : (wakes : List ℕ) (v w : ℕ) → v < get_or wakes w 0 → set wakes w v ≡ woken_by wakes v w
unfolding woken_by
woken_set wakes v w h = rw (lt-ltb v (get_or wakes w 0) h) refl

pub woken_kept : (wakes : List ℕ) (v w : ℕ) → get_or wakes w 0 ≤ v → wakes ≡ woken_by wakes v w
unfolding woken_by
woken_kept wakes v w h = rw (le-ltb v (get_or wakes w 0) h) refl

pub woken_length : (wakes : List ℕ) (v w : ℕ) → length (woken_by wakes v w) ≡ length wakes
unfolding woken_by
woken_length wakes v w =
    ⊎_elim (λ q. rw q (length-set wakes w v)) (λ q. rw q refl) (decide (ltb v (get_or wakes w 0)))

module _ (deps : List ℕ) (n : ℕ) (done wakes : List ℕ) (low : ℕ) (r : Resting deps n done wakes low) where
  not_ready : (v : ℕ) → v < low → ready (edge_of deps) n (marked done) v ≡ false
  not_ready v h =
      ⊎_elim
      (λ d. ready_done (edge_of deps) n (marked done) v d)
      (λ s. ready_blocked (edge_of deps) n (marked done) v s.0 s.1.inside s.1.edge s.1.undone)
      (r.each v h)

  rest_none : low ≡ n → n ≡ next (edge_of deps) n (marked done)
  unfolding next
  rest_none e =
      sym (left_end (ready (edge_of deps) n (marked done)) n low e)
      ∙ left_from (ready (edge_of deps) n (marked done)) n low (omega arith) not_ready

  rest_found : (w : ℕ) → low < n → marked done low ≡ false
      → ((u : ℕ) → u < w → unmet (edge_of deps) (marked done) low u ≡ false) → n ≤ w → low ≡ next (edge_of deps) n (marked done)
  unfolding next
  rest_found w h d lacks e =
      sym (left_here (ready (edge_of deps) n (marked done)) n low h (ready_now (edge_of deps) n (marked done) low w d lacks e))
      ∙ left_from (ready (edge_of deps) n (marked done)) n low (omega arith) not_ready

  pub rest_done : marked done low ≡ true → Resting deps n done wakes (low + 1)
  rest_done d =
      record {
        each =
            λ v h.
            ⊎_elim
            (λ (q : eqb v low ≡ true). inl (rw (eqb-true v low q) d))
            (λ (q : eqb v low ≡ false). let o = eqb-false v low q in r.each v (omega arith))
            (decide (eqb v low));
      }

  pub rest_wait : (w : ℕ) → n ≤ 40 → 1640 ≤ length deps → low < n → w < n → w < length wakes → linked deps low w ≡ true → marked done w ≡ false
      → Resting (set deps (1600 + low) w) n done (woken_by wakes low w) (low + 1)
  rest_wait w small size l b room e d =
      record {
        each =
            λ v h.
            ⊎_elim
            (λ (q : eqb v low ≡ true).
            let i : v ≡ low = eqb-true v low q in
            rw i
            (inr (
              w,
              record {
                start = start_here deps low w size (omega arith);
                inside = b;
                edge = here_edge deps low w size (omega arith) (omega arith) e;
                undone = d;
                woken = woken_here wakes low w room;
              },
            )))
            (λ (q : eqb v low ≡ false).
            let o = eqb-false v low q in
            ⊎_elim
            (λ t. inl t)
            (λ s.
            let k = s.1.woken in
            let m = woken_less wakes low w s.0 room in
            let i = s.1.inside in
            inr (
              s.0,
              record {
                start = start_other deps low w size (omega arith) v o ∙ s.1.start;
                inside = i;
                edge = other_edge deps low w size (omega arith) v s.0 o (omega arith) (omega arith) ∙ s.1.edge;
                undone = s.1.undone;
                woken = omega arith;
              },
            ))
            (r.each v (omega arith)))
            (decide (eqb v low));
      }

  pub rest_mark : (next : ℕ) → low < length done → next ≤ low + 1 → next ≤ get_or wakes low 0 → Resting deps n (set done low 1) wakes next
  rest_mark next l a b =
      record {
        each =
            λ v h.
            ⊎_elim
            (λ (q : eqb v low ≡ true). inl (marked_set done low v l ∙ rw q (or-true (marked done v))))
            (λ (q : eqb v low ≡ false).
            let o = eqb-false v low q in
            ⊎_elim
            (λ t. inl (marked_set done low v l ∙ ap (λ (x : Bool). x || eqb v low) t))
            (λ s.
            let k = s.1.woken in
            let d : s.0 ≡ low → ⊥ = λ e. let k' : get_or wakes low 0 ≤ v = rw e at k in absurd (omega arith) in
            inr (
              s.0,
              record {
                start = s.1.start;
                inside = s.1.inside;
                edge = s.1.edge;
                undone = marked_set done low s.0 l ∙ rw (s.1.undone, ne_eqb s.0 low d) refl;
                woken = k;
              },
            ))
            (r.each v (omega arith)))
            (decide (eqb v low));
      }

-- The loops of `ready_vertex`: `from` is the matrix at the start, `deps` that at vertex v.
module _ (from : List ℕ) (n : ℕ) (done deps wakes : List ℕ) (v : ℕ) (m : Met from n done deps) (r : Resting deps n done wakes v) where
  pub search_none : v ≡ n → (n ≡ next (edge_of from) n (marked done)) × Met from n done deps × Resting deps n done wakes n
  search_none e = (
    rest_none deps n done wakes v r e ∙ met_next from n done deps m,
    m,
    subst (λ (u : ℕ). Resting deps n done wakes u) e r,
  )

  module _ (deps' wakes' : List ℕ) (same : deps' ≡ deps) (same' : wakes' ≡ wakes) (w : ℕ)
      (lacks : (u : ℕ) → u < w → unmet (edge_of deps') (marked done) v u ≡ false) (l : v < n) where
    met' : Met from n done deps'
    met' = subst (λ (d : List ℕ). Met from n done d) (sym same) m

    rest' : Resting deps' n done wakes' v
    rest' =
        subst (λ (x : List ℕ). Resting deps' n done x v) (sym same')
        (subst (λ (d : List ℕ). Resting d n done wakes v) (sym same) r)

    pub search_found : marked done v ≡ false → n ≤ w
        → (v ≡ next (edge_of from) n (marked done)) × Met from n done deps' × Resting deps' n done wakes' v
    search_found d h = (rest_found deps' n done wakes' v rest' w l d lacks h ∙ met_next from n done deps' met', met', rest')

    pub search_wait : n ≤ 40 → 1640 ≤ length from → n ≤ length wakes → w < n → get_or deps' (1600 + v) 0 ≤ w → get_or deps' (v * 40 + w) 0 ≡ 0
        → marked done w ≡ false
        → Met from n done (set deps' (1600 + v) w)
        × Resting (set deps' (1600 + v) w) n done (woken_by wakes' v w) (v + 1)
        × (length (woken_by wakes' v w) ≡ length wakes)
    search_wait small size room b start cell d =
        let long = met'.long in
        let equal : length wakes' ≡ length wakes = ap length same' in (
          met_trans from n done deps' met' (set deps' (1600 + v) w) (met_wait deps' v w (omega arith) (omega arith) n done small l start lacks),
          rest_wait deps' n done wakes' v rest' w small (omega arith) l b (omega arith) (zero_linked deps' v w cell) d,
          woken_length wakes' v w ∙ equal,
        )
