use Rattle.std.proofs.Common.{◌≡◌, ℕ, ◌+◌, ◌<◌, List, Option, length, sym, refl, subst, arith, length-set}
use Rattle.sheet.specs.Drafts.{drawn}
use Rattle.sheet.specs.Steps.{Claims}
use Rattle.sheet.proofs.Times.{claimed_is, claims_none, claims_keep, claims_set, unclaimed_is}
use Rattle.sheet.proofs.draft.Draft.first_claims.Goals as goal
use Rattle.sheet.proofs.draft.Draft.first_claims.Goals.{then-c-lt513+then-is_none, else-c-lt513, else-c-lt513-via-then-c-lt513+else-is_none, else-c-lt513-via-else-c-lt513}

pub loop-q-init : goal.loop-q-init
loop-q-init c = (refl, claims_none _)

pub loop-q-preserved : goal.loop-q-preserved
loop-q-preserved c =
    let cs = (drawn c.args.self.now).children in
    let q = c.loop-q.q in
    let lt : q < length cs = omega (arith, c.child_count-q-end.ensures.counts_them, c.loop-q-test.true) in
    let e = c.child_number-c.ensures.as_written in
    let P : List (Option ℕ) → Type 0 = λ t. (length t ≡ 513) × Claims cs (q + 1) t in
    let x = c.child_number-c.result in
    let inv = c.loop-q.invariant in
    elim c.if-c-lt513.branch [
      | then-c-lt513+then-is_none w ↦
          subst P (sym w.first-is) (simp length-set inv.0, claims_set cs q lt c.loop-q.first x e inv.0 inv.1 w.if-c-lt513.true (unclaimed_is _ _ w.is_none.ensures w.if-is_none.true))
      | else-c-lt513 w ↦
          subst P (sym w.first-is) (
            inv.0,
            claims_keep cs q lt c.loop-q.first x e inv.1
                (elim w.else-c-lt513.branch [
                  | else-c-lt513-via-then-c-lt513+else-is_none v ↦ λ h. claimed_is _ _ v.is_none.ensures v.if-is_none.false
                  | else-c-lt513-via-else-c-lt513 v ↦ λ h. absurd (omega (arith, v.if-c-lt513.false))
                ]),
          )
    ]
