-- `verifier::leave` meets its contract.
use mathlib.Core.Path.{refl}
use native.Mathlib.Omega.{arith}
use lib.ListN.{length-set}
use Rattle.verifier.proofs.Ends.{leave_idle, leave_bounds, reach_refused, weight_refused, leave_closed}
use Rattle.verifier.proofs.leave.Goals as goal

pub returns-then-u-eq0 : goal.returns-then-u-eq0
returns-then-u-eq0 c = leave_idle _ _ _ _ _ c.requires c.if-u-eq0.true

pub returns-then-at-u : goal.returns-then-at-u
returns-then-at-u c = reach_refused _ _ _ _ _ c.requires (let z = c.if-u-eq0.false in omega arith) c.if-at-u.true

pub returns-then-u-gt-WEIGHT_LIMIT : goal.returns-then-u-gt-WEIGHT_LIMIT
returns-then-u-gt-WEIGHT_LIMIT c = weight_refused _ _ _ _ _ c.requires (let z = c.if-u-eq0.false in omega arith) c.if-u-gt-WEIGHT_LIMIT.true

pub overflow_mul-row : goal.overflow_mul-row
overflow_mul-row c = let h = leave_bounds _ _ _ _ _ c.requires c.if-u-eq0.false in omega arith

pub overflow_add-directory : goal.overflow_add-directory
overflow_add-directory c = let h = leave_bounds _ _ _ _ _ c.requires c.if-u-eq0.false in omega arith

pub offset_bounds-directory-row : goal.offset_bounds-directory-row
offset_bounds-directory-row c = let h = leave_bounds _ _ _ _ _ c.requires c.if-u-eq0.false in omega arith

pub bounds-directory-row : goal.bounds-directory-row
bounds-directory-row c = let h = leave_bounds _ _ _ _ _ c.requires c.if-u-eq0.false in omega arith

pub overflow_add-directory-2 : goal.overflow_add-directory-2
overflow_add-directory-2 c = let h = leave_bounds _ _ _ _ _ c.requires c.if-u-eq0.false in omega arith

pub offset_bounds-directory-row-2 : goal.offset_bounds-directory-row-2
offset_bounds-directory-row-2 c = let h = leave_bounds _ _ _ _ _ c.requires c.if-u-eq0.false in omega arith

pub bounds-directory-row-2 : goal.bounds-directory-row-2
bounds-directory-row-2 c = simp length-set (let h = leave_bounds _ _ _ _ _ c.requires c.if-u-eq0.false in omega arith)

pub overflow_add-directory-3 : goal.overflow_add-directory-3
overflow_add-directory-3 c = let h = leave_bounds _ _ _ _ _ c.requires c.if-u-eq0.false in omega arith

pub offset_bounds-directory-row-3 : goal.offset_bounds-directory-row-3
offset_bounds-directory-row-3 c = let h = leave_bounds _ _ _ _ _ c.requires c.if-u-eq0.false in omega arith

pub bounds-directory-row-3 : goal.bounds-directory-row-3
bounds-directory-row-3 c = simp length-set (let h = leave_bounds _ _ _ _ _ c.requires c.if-u-eq0.false in omega arith)

pub overflow_add-directory-4 : goal.overflow_add-directory-4
overflow_add-directory-4 c = let h = leave_bounds _ _ _ _ _ c.requires c.if-u-eq0.false in omega arith

pub offset_bounds-directory-row-4 : goal.offset_bounds-directory-row-4
offset_bounds-directory-row-4 c = let h = leave_bounds _ _ _ _ _ c.requires c.if-u-eq0.false in omega arith

pub bounds-directory-row-4 : goal.bounds-directory-row-4
bounds-directory-row-4 c = simp length-set (let h = leave_bounds _ _ _ _ _ c.requires c.if-u-eq0.false in omega arith)

pub overflow_add-directory-5 : goal.overflow_add-directory-5
overflow_add-directory-5 c = let h = leave_bounds _ _ _ _ _ c.requires c.if-u-eq0.false in omega arith

pub offset_bounds-directory-row-5 : goal.offset_bounds-directory-row-5
offset_bounds-directory-row-5 c = let h = leave_bounds _ _ _ _ _ c.requires c.if-u-eq0.false in omega arith

pub bounds-directory-row-5 : goal.bounds-directory-row-5
bounds-directory-row-5 c = simp length-set (let h = leave_bounds _ _ _ _ _ c.requires c.if-u-eq0.false in omega arith)

pub overflow_add-directory-6 : goal.overflow_add-directory-6
overflow_add-directory-6 c = let h = leave_bounds _ _ _ _ _ c.requires c.if-u-eq0.false in omega arith

pub offset_bounds-directory-scope : goal.offset_bounds-directory-scope
offset_bounds-directory-scope c = let h = leave_bounds _ _ _ _ _ c.requires c.if-u-eq0.false in omega arith

pub bounds-directory-scope : goal.bounds-directory-scope
bounds-directory-scope c = simp length-set (let h = leave_bounds _ _ _ _ _ c.requires c.if-u-eq0.false in omega arith)

pub bounds-ring-at : goal.bounds-ring-at
bounds-ring-at c = let h = leave_bounds _ _ _ _ _ c.requires c.if-u-eq0.false in omega arith

pub shape_of-directory : goal.shape_of-directory
shape_of-directory c = simp length-set refl

pub returns : goal.returns
returns c = leave_closed _ _ _ _ _ c.requires (let z = c.if-u-eq0.false in omega arith) c.if-at-u.false c.if-u-gt-WEIGHT_LIMIT.false
