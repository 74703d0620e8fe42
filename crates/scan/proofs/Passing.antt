-- The pass over the options, one turn for each thing that may stand at a position.
use Prim.Native.Nat.{ℕ, ◌+◌, ◌-◌}
use mathlib.Core.Path.{◌≡◌, refl, sym, ap, ◌∙◌}
use mathlib.Core.Bool.{true, false}
use mathlib.Core.List.{List, []}
use mathlib.Core.Option.{Option, some, none}
use Rattle.std.specs.Prelude.{Some, None}
use native.Mathlib.Omega.{arith}
use lib.ListN.{length, drop}
use borrow.Author.Tests.{ne_eqb}
use Rattle.lemmas.proofs.Choice.{true_false}
use Rattle.plain.specs.Lists.{any, those}
use Rattle.plain.specs.Octets.{Opt, options_in, options_of, any_bad, bad_option, followed_by}
use Rattle.option.specs.Follows.{option_of, part_of}
use Rattle.option.specs.declared.Next.{Next}
use Rattle.option.specs.declared.Next.TheVariants.{Pad, Body, End, Cut}
use Rattle.scan.specs.declared.Found.{Found}
use Rattle.scan.specs.declared.Scan.{Scan}
use Rattle.scan.specs.Seen.{Seen, Told}
use Rattle.scan.specs.Scanned.{fresh_scan, Ahead, OptionTaken, Outlined, Scanned}
use Rattle.option.proofs.Turn.{Turn, body_placed, end_next, cut_next, pad_next, body_next}

-- what holds before each turn: the options from `at` on, read in `left` steps, are those that are to come
pub record Passing (msg : List ℕ) (s : Scan) (at left : ℕ) : Type 0 where
  pub same : any_bad (options_in left (drop at msg)) ≡ any_bad (options_of msg)
  pub ahead : (all rest : List Opt) → options_of msg ≡ some all → options_in left (drop at msg) ≡ some rest → Ahead msg all rest s

-- a right option in front changes nothing, a bad one decides
right_first : (o : Opt) (os : Option (List Opt)) → bad_option o ≡ false → any_bad (followed_by o os) ≡ any_bad os
unfolding any
right_first o none e = refl
right_first o (some os) e = rw e

bad_first : (o : Opt) (os : Option (List Opt)) → bad_option o ≡ true → any_bad (followed_by o os) ≡ true
unfolding any
bad_first o none e = refl
bad_first o (some os) e = rw e

-- ---- The start and the end

seen_none : (wanted : ℕ) (msg : List ℕ) (all rest : List Opt) → all ≡ rest → Seen wanted msg all rest (record { count = 0; start = 0; end = 0 })
seen_none wanted msg all rest e = record { few = omega arith; count = rw e (omega arith); body = rw e; right = λ h. absurd (omega arith) }

pub passing_first : (msg : List ℕ) → Passing msg fresh_scan 24 (length msg)
passing_first msg = record {
  same = refl;
  ahead = λ all rest p q. let e : all ≡ rest = cc in record {
    configuration = seen_none _ msg all rest e;
    rreq = seen_none _ msg all rest e;
    rrep = seen_none _ msg all rest e;
    art = seen_none _ msg all rest e;
  };
}

told_all : (wanted : ℕ) (msg : List ℕ) (all : List Opt) (f : Found) → options_of msg ≡ some all → Seen wanted msg all [] f → Told wanted msg f
unfolding those
told_all wanted msg all f e v = record {
  count = rw e (omega (arith, v.count, v.few));
  body = λ h. rw e (v.body ∙ rw (ne_eqb f.count 0 (λ z. omega arith)));
  right = v.right;
}

outlined_all : (msg : List ℕ) (all : List Opt) (s : Scan) → options_of msg ≡ some all → Ahead msg all [] s → Outlined msg s
outlined_all msg all s e v = record {
  configuration = told_all _ msg all _ e v.configuration;
  rreq = told_all _ msg all _ e v.rreq;
  rrep = told_all _ msg all _ e v.rrep;
  art = told_all _ msg all _ e v.art;
}

pub scanned_bad : (msg : List ℕ) → any_bad (options_of msg) ≡ true → Scanned msg None
scanned_bad msg h = record { bad = sym h; told = tt }

module _ {msg : List ℕ} {s : Scan} {at left : ℕ} (v : Passing msg s at left) where
  -- no option is to come
  scanned_none : options_in left (drop at msg) ≡ some [] → Scanned msg (Some s)
  unfolding any
  scanned_none e =
      let good : any_bad (options_of msg) ≡ false = sym v.same ∙ rw e in
      record { bad = sym good; told = go (options_of msg) refl good }
    where
      go : (os : Option (List Opt)) → options_of msg ≡ os → any_bad os ≡ false → Outlined msg s
      go none p h = true_false h
      go (some all) p h = outlined_all msg all s p (v.ahead all [] p e)

  pub scanned_out : left ≡ 0 → Scanned msg (Some s)
  unfolding options_in
  scanned_out h = scanned_none (rw h)

-- ---- One turn

module _ {msg : List ℕ} {s : Scan} {at left : ℕ} {n : Next} (w : Turn (Passing msg s at left) msg at left n) where
  pub scanned_end : n ≡ End → Scanned msg (Some s)
  scanned_end e = scanned_none w.inv (end_next w e)

  pub scanned_cut : n ≡ Cut → Scanned msg None
  scanned_cut e = scanned_bad msg (sym w.inv.same ∙ rw (cut_next w e))

  pub passing_pad : {more : ℕ} → n ≡ Pad → more ≡ left - 1 → Passing msg s (at + 1) more
  passing_pad e m = rw m (record {
    same = sym (ap any_bad (pad_next w e)) ∙ w.inv.same;
    ahead = λ all rest p q. w.inv.ahead all rest p (pad_next w e ∙ q);
  })

  module _ {kind start end : ℕ} (e : n ≡ Body kind start end) where
    pub scanned_body : bad_option (option_of kind (part_of msg start end)) ≡ true → Scanned msg None
    scanned_body b = scanned_bad msg (sym w.inv.same ∙ ap any_bad (body_next w e) ∙ bad_first _ (options_in (left - 1) (drop end msg)) b)

    pub passing_body : {r : Scan} {more : ℕ} → bad_option (option_of kind (part_of msg start end)) ≡ false → OptionTaken kind start end s r
        → more ≡ left - 1 → Passing msg r end more
    passing_body g t m = let p = body_placed w e in rw m (record {
      same = sym (ap any_bad (body_next w e) ∙ right_first _ (options_in (left - 1) (drop end msg)) g) ∙ w.inv.same;
      ahead = λ all rest a q.
          t msg all rest (record { order = p.0; short = p.1; within = p.2; good = g })
          (w.inv.ahead all _ a (body_next w e ∙ rw q));
    })
