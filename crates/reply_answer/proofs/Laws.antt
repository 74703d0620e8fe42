-- What the answer of a reply comes to.
use Prim.Native.Nat.{◌≤◌}
use mathlib.Core.Path.{◌≡◌, refl, ap, ◌∙◌}
use mathlib.Core.Bool.{Bool, true, false, cond, not, ◌&&◌}
use mathlib.Core.List.{List}
use mathlib.Core.Option.{Option}
use native.Mathlib.Omega.{arith}
use lib.ListN.{take}
use Rattle.plain.specs.Address.{Address}
use Rattle.plain.specs.Given.{Settings, Received, RequestRow, ReplyRow, Route}
use Rattle.plain.specs.Table.{Numbered}
use Rattle.plain.specs.Octets.{Message}
use Rattle.plain.specs.Rank.{min_hop, own_rank, rank_refused}
use Rattle.plain.specs.Answers.{answer_of}
use Rattle.plain.specs.Request.{cannot_grow, grown}
use Rattle.plain.specs.Reply.{Answered, answered_with, grows, reply_lines}
use Rattle.lemmas.proofs.Rules.{unheld}
use Rattle.rank.proofs.Refusal.{own_fits}
use Rattle.message.specs.Message.{message_in}
use Rattle.message.specs.declared.Parsed.{Parsed}
use Rattle.reply.specs.Facts.{answered_of, Gathered, is_full}
use Rattle.reply.specs.declared.ReplyFacts.{ReplyFacts}
use Rattle.reply.proofs.Laws.{grows_h}

-- ---- Answer 16

module _ (m : Message) (a : Answered) where
  full_added : (x : Settings) → grows m a && cannot_grow m.discovery.compr (grown x false m.vector) ≡ is_full x m a
  unfolding is_full
  full_added x = go (grows m a) refl
    where
      go : (g : Bool) → grows m a ≡ g
          → grows m a && cannot_grow m.discovery.compr (grown x false m.vector)
          ≡ grows m a && cannot_grow m.discovery.compr (grown x m.discovery.h m.vector)
      go true e = rw (grows_h m a e)
      go false e = rw e

pub full_is : (x : Settings) (p : Parsed) (v : List Address) (w : ReplyFacts) (adds r : Bool) → adds ≡ grows (message_in p v) (answered_of w)
    → r ≡ adds && cannot_grow p.discovery.compr (grown x false (take p.n v)) → r ≡ is_full x (message_in p v) (answered_of w)
unfolding message_in
full_is x p v w adds r ea er = er ∙ rw ea (full_added (message_in p v) (answered_of w) x)

-- ---- Where no line holds

-- 12 and 16 are not given
pub none_holds : (x : Settings) (c : Received) (m : Message) (a : Answered) → answer_of (reply_lines x c m a) ≡ 0
    → (not a.symmetric
    && rank_refused (min_hop m.configuration) m.base.rank c.increase m.discovery.limit a.is_orig ≡ false)
    × (is_full x m a ≡ false)
unfolding reply_lines is_full
none_holds x c m a e =
    let e10 = (unheld _ _ e (omega arith)).1 in
    let e11 = (unheld _ _ e10 (omega arith)).1 in
    let e12 = (unheld _ _ e11 (omega arith)).1 in
    let e13 = unheld _ _ e12 (omega arith) in
    let e14 = (unheld _ _ e13.1 (omega arith)).1 in
    let e16 = (unheld _ _ e14 (omega arith)).1 in
    (e13.0, (unheld _ _ e16 (omega arith)).0)

-- where 12 is not given, our own rank has 16 bits
pub rank_fits : (x : Settings) (c : Received) (m : Message) (p : RequestRow) (row : Option (Numbered ReplyRow)) (route : Option (Numbered Route))
    (w : ReplyFacts) → Gathered (answered_with x c m p row route) w → answer_of (reply_lines x c m (answered_of w)) ≡ 0 → w.rank ≤ 65535
unfolding answered_with answered_of
rank_fits x c m p row route w g e =
    go (p.s && not c.to_group) (ap (λ (a : Answered). a.symmetric) g.means) (ap (λ (a : Answered). a.rank) g.means)
    (none_holds x c m (answered_of w) e).0
  where
    go : (s : Bool) → w.symmetric ≡ s → w.rank ≡ cond s m.base.rank (own_rank m.base.rank c.increase)
        → not w.symmetric && rank_refused (min_hop m.configuration) m.base.rank c.increase m.discovery.limit w.orig ≡ false
        → w.rank ≤ 65535
    go true f r n = g.short f
    go false f r n = omega (arith, r, own_fits (min_hop m.configuration) m.base.rank c.increase m.discovery.limit w.orig (rw f at n))
