use Rattle.std.proofs.Common.{◌≡◌, ◌/◌, leb, true, [], ◌∷◌, ◌++◌, map, length, sym, ap, ◌∙◌, arith, lt-ltb}
use Rattle.std.proofs.lemmas.List.{length-map, map_push}
use Rattle.std.proofs.lemmas.Bool.{le-leb, cond-true}
use Rattle.format.specs.Ids.{number_of}
use Rattle.sheet.specs.Records.{child_from}
use Rattle.sheet.proofs.Drafts.{child_total}
use Rattle.table.specs.Tables.{after_push, listed, tabulated}
use Rattle.table.proofs.Listed.{tabulated_none, tabulated_more, length-tabulated, get_or-tabulated}
use Rattle.sheet.proofs.draft.Draft.child_table.Goals as goal

pub loop-q-init : goal.loop-q-init
loop-q-init c = ap (map number_of) c.new-table.ensures.lists_nothing ∙ sym (tabulated_none _)

pub loop-q-preserved : goal.loop-q-preserved
loop-q-preserved c =
    let cs = c.args.self.now.children.now in
    let f = child_from cs in
    let q = c.loop-q.q in
    let xs = listed c.loop-q.table in
    let x = c.new.result in
    let k = c.child_number.result in
    let w = c.child_number.ensures.as_written in
    let there = c.child_count-q-end.ensures.counts_them in
    let room : c.push.result ≡ true = c.push.ensures.says_whether_there_was_room
    ∙ lt-ltb (length xs) 1024 (omega (arith, length-map xs number_of, ap length c.loop-q.invariant, length-tabulated f q, c.child_count-q-end.ensures.few, c.loop-q-test.true)) in
    let low = c.requires.real q (omega (arith, there, c.loop-q-test.true)) in
    let e = c.new.ensures.names_that_number
    ∙ (cond-true (leb k 512) k 0 (le-leb k 512 (omega (arith, low, w))) ∙ (w ∙ get_or-tabulated f (length cs / 2) q 0 (omega (arith, there, child_total c.args.self.now, c.loop-q-test.true)))) in
    ap (map number_of) (c.push.ensures.adds_it_last_if_there_was ∙ ap (λ b. after_push b xs x) room)
    ∙ (map_push number_of xs x ∙ (ap (λ zs. zs ++ (number_of x ∷ [])) c.loop-q.invariant ∙ (ap (λ z. tabulated f q ++ (z ∷ [])) e ∙ sym (tabulated_more f q))))

pub returns : goal.returns
returns c =
    let d = c.args.self.now in
    record { all_as_written = c.loop-q.invariant ∙ ap (tabulated (child_from d.children.now)) (omega (arith, c.loop-q-test.false, c.loop-q.auto.q-end, c.child_count-q-end.ensures.counts_them, child_total d)) }
