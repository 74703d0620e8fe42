use Rattle.place.proofs.Laws.{become_one, become_two, become_none, new_none, new_one, new_two, new_full}
use Rattle.place.proofs.place_rows.Goals.{in-Some, in-None+in_ok-new-in-None}
use Rattle.place.proofs.place_rows.Goals as goal

pub returns-in_err-new-in-None : goal.returns-in_err-new-in-None
returns-in_err-new-in-None c =
    let s = c.find_spare in
    rw (c.in-None.is, c.from_residual.ensures) (new_none c.args.rows.now c.args.t s.result s.ensures c.in_err-new-in-None.was c.args.replies)

pub returns-in_err-find_spare : goal.returns-in_err-find_spare
returns-in_err-find_spare c =
    let rows = c.args.rows.now in
    let t = c.args.t in
    let r = c.find_spare-then-replies in
    let n = c.in_err-find_spare in
    rw (c.if-replies.true, c.from_residual-in_err-find_spare.ensures)
    (elim c.match-at.branch [
      | in-Some w ↦
          let k = w.in-Some in
          rw k.is (become_none rows t k.live (rw k.is at c.requires.within) (rw k.is at c.requires.lives) r.result (rw w.first-is at r.ensures) n.was)
      | in-None+in_ok-new-in-None w ↦
          let s = w.find_spare in
          let j = w.in_ok-new-in-None in
          rw w.in-None.is (new_full rows t s.result s.ensures j.new j.was r.result (rw w.first-is at r.ensures) n.was)
    ])

pub returns-in_ok-find_spare : goal.returns-in_ok-find_spare
returns-in_ok-find_spare c =
    let rows = c.args.rows.now in
    let t = c.args.t in
    let r = c.find_spare-then-replies in
    let n = c.in_ok-find_spare in
    rw c.if-replies.true
    (elim c.match-at.branch [
      | in-Some w ↦
          let k = w.in-Some in
          rw (k.is, w.first-is) (become_two rows t k.live (rw k.is at c.requires.within) (rw k.is at c.requires.lives) r.result (rw w.first-is at r.ensures) n.field-0 n.was)
      | in-None+in_ok-new-in-None w ↦
          let s = w.find_spare in
          let j = w.in_ok-new-in-None in
          rw (w.in-None.is, w.first-is) (new_two rows t s.result s.ensures j.new j.was r.result (rw w.first-is at r.ensures) n.field-0 n.was)
    ])

pub returns-else-replies : goal.returns-else-replies
returns-else-replies c =
    let rows = c.args.rows.now in
    let t = c.args.t in
    rw c.if-replies.false
    (elim c.match-at.branch [
      | in-Some w ↦
          let k = w.in-Some in
          rw (k.is, w.first-is) (become_one rows t k.live (rw k.is at c.requires.within) (rw k.is at c.requires.lives))
      | in-None+in_ok-new-in-None w ↦
          let s = w.find_spare in
          let j = w.in_ok-new-in-None in
          rw (w.in-None.is, w.first-is) (new_one rows t s.result s.ensures j.new j.was)
    ])
