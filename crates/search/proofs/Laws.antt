-- What a search answers is what the rules find.
use Prim.Native.Nat.{ℕ, ◌<◌, ◌≤◌}
use mathlib.Core.Path.{◌≡◌, refl, sym, ap}
use mathlib.Core.Bool.{Bool, true, beq, ◌&&◌}
use mathlib.Core.List.{List, map}
use mathlib.Core.Option.{Option, some, none}
use lib.Dec.{eqb}
use lib.ListN.{length, get_or}
use Rattle.std.specs.Prelude as core
use Rattle.std.specs.Prelude.{Some, None, is_some}
use Rattle.std.proofs.lemmas.List.{get_or_default}
use Rattle.plain.specs.Lists.{first_of, given, same}
use Rattle.plain.specs.Address.{Address}
use Rattle.plain.specs.Table.{Numbered, lasts, live, live_rows, instance_deadline}
use Rattle.plain.specs.Answers.{of_kind, requests, replies, request_for, reply_for}
use Rattle.lemmas.proofs.Choice.{and_left, and_right}
use Rattle.row.specs.Meaning.{instance_of, no_row}
use Rattle.keyed.specs.Look.{here}
use Rattle.keyed.proofs.Laws.{Sort, request_sort, reply_sort}
use Rattle.row.specs.declared.InstanceRow.{InstanceRow}
use Rattle.first.specs.First.{first, found_at}
use Rattle.first.proofs.Library.{found_first, found_within, found_past}
use Rattle.first.proofs.Found.{sort_is, sort_live, sort_found, sort_missing}
use Rattle.partner.specs.Partner.{partner_for}
use Rattle.search.specs.Seen.{LiveRow}

-- ---- what a search hands on

-- `d` is what the code reads past the end
pub live_hit : {rows : List InstanceRow} {t k : ℕ} (d : InstanceRow) → k < length rows
    → live instance_deadline t (instance_of (get_or rows k no_row)) ≡ true → LiveRow rows t (Some (record { at = k; row = get_or rows k d }))
live_hit {rows = rows} {k = k} d h l = record { within = h; stands = get_or_default rows k d no_row h; lives = l }

-- ---- request rows, reply rows, a partner, and routes (crates/search_route)

-- A search for a row of a kind that is so, which none is that is not live at t; and all rows of the kind, as the rules name them.
pub record Ask (t : ℕ) : Type 1 where
  pub sort : Sort
  pub test : sort.Row → Bool
  pub lives : (b : sort.Row) → test b ≡ true → lasts t (sort.ends b) ≡ true
  pub all : List (Numbered sort.Meaning) → List (Numbered sort.Row)
  pub all_are : (ns : List (Numbered sort.Meaning)) → all ns ≡ of_kind sort.part ns

-- `r` is what a search for the first record of that kind answers
module _ {t : ℕ} (A : Ask t) (rows : List A.sort.Record) {r : core.Option ℕ} (e : r ≡ found_at (here A.sort.part A.test) (map A.sort.read rows)) where
  -- what the rules see at a clock
  abbrev pub seen : ℕ → Option (Numbered A.sort.Row)
  seen clock = first_of (λ (n : Numbered A.sort.Row). A.test n.row) (A.all (live_rows A.sort.deadline clock (map A.sort.read rows)))

  module _ {k : ℕ} (g : r ≡ Some k) where
    at_first : k ≡ first (here A.sort.part A.test) (map A.sort.read rows)
    at_first = found_first A.sort.read (here A.sort.part A.test) rows r e k g

    pub hit_within : k < length rows
    hit_within = found_within A.sort.read (here A.sort.part A.test) rows r e k g

    pub hit : (d : A.sort.Record) → (clock : ℕ) → clock ≤ t → some (record { number = k; row = A.sort.row (get_or rows k d) }) ≡ seen clock
    hit d clock l =
        rw (get_or_default rows k d A.sort.blank hit_within)
        (sym (rw (A.all_are (live_rows A.sort.deadline clock (map A.sort.read rows)))
        (sort_found A.sort A.test t A.lives rows k at_first hit_within clock l)))

    pub hit_live : live A.sort.deadline t (A.sort.read (get_or rows k A.sort.blank)) ≡ true
    hit_live = sort_live A.sort A.test t A.lives rows k at_first hit_within

    pub hit_kind : (d : A.sort.Record) → A.sort.is (get_or rows k d) ≡ true
    hit_kind d =
        rw (get_or_default rows k d A.sort.blank hit_within) (sort_is A.sort A.test t A.lives rows k at_first hit_within).0

  pub miss : r ≡ None → (clock : ℕ) → clock ≤ t → none ≡ seen clock
  miss g clock l =
      sym (rw (A.all_are (live_rows A.sort.deadline clock (map A.sort.read rows)))
      (sort_missing A.sort A.test t A.lives rows (first (here A.sort.part A.test) (map A.sort.read rows)) refl
      (found_past A.sort.read (here A.sort.part A.test) rows r e g) clock l))

  -- whether there is one
  pub told : (clock : ℕ) → clock ≤ t → is_some r ≡ given (seen clock)
  told clock l = go r refl
    where
      go : (o : core.Option ℕ) → r ≡ o → is_some o ≡ given (seen clock)
      go None g = ap given (miss g clock l)
      go (Some k) g = ap given (hit g A.sort.blank clock l)

abbrev pub request_ask : (t instance : ℕ) → Address → Ask t
request_ask t instance dodagid = record {
  sort = request_sort;
  test = request_for t instance dodagid;
  lives = λ b. and_right (eqb b.instance instance && same b.dodagid dodagid) (lasts t b.deadline);
  all = requests;
  all_are = λ ns. refl;
}

abbrev pub partner_ask : (t instance : ℕ) → Address → Bool → Ask t
partner_ask t instance dodagid h = record {
  sort = request_sort;
  test = partner_for t instance dodagid h;
  lives = λ b e. (request_ask t instance dodagid).lives b (and_left (request_for t instance dodagid b) (beq b.h h) e);
  all = requests;
  all_are = λ ns. refl;
}

abbrev pub reply_ask : (t instance : ℕ) → Address → Ask t
reply_ask t instance dodagid = record {
  sort = reply_sort;
  test = reply_for t instance dodagid;
  lives = λ b. and_right (eqb b.instance instance && same b.dodagid dodagid) (lasts t b.deadline);
  all = replies;
  all_are = λ ns. refl;
}
