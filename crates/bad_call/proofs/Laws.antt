-- A bad call, where only our own addresses are left to ask.
use Prim.Native.Nat.{ℕ, ◌≤◌, ◌^◌}
use mathlib.Core.Path.{◌≡◌, sym, ◌∙◌}
use mathlib.Core.Bool.{Bool, true, false}
use borrow.Author.Tests.{le-ltb}
use Rattle.plain.specs.Address.{unusable}
use Rattle.plain.specs.Given.{Settings, Lent}
use Rattle.plain.specs.Answers.{bad_lent}

module _ (x : Settings) (clock : ℕ) (c : Lent) (e1 : clock ≤ c.time) (e2 : c.time ≤ 2 ^ 40) (e3 : 1236 ≤ c.forward_room) (e4 : 1236 ≤ c.reply_room) where
  pub bad_receiving : (b : Bool) → b ≡ unusable x.receiving → b ≡ true → bad_lent x clock c ≡ true
  unfolding bad_lent
  bad_receiving b e f =
      rw (le-ltb c.time clock e1, le-ltb (2 ^ 40) c.time e2, le-ltb c.forward_room 1236 e3, le-ltb c.reply_room 1236 e4, sym e ∙ f)

  pub bad_sending : (b : Bool) → b ≡ unusable x.receiving → b ≡ false → bad_lent x clock c ≡ unusable x.sending
  unfolding bad_lent
  bad_sending b e f =
      rw (le-ltb c.time clock e1, le-ltb (2 ^ 40) c.time e2, le-ltb c.forward_room 1236 e3, le-ltb c.reply_room 1236 e4, sym e ∙ f)
