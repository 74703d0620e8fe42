-- 01, "Bench examples": the marked cases (*), shown of the rules themselves, as a single table under one claim.
use Rattle.std.specs.Prelude.{◌≡◌, true, false, [], ◌∷◌, take, replicate}
use Rattle.std.proofs.Math.Option.{some}
use Rattle.plain.specs.Octets.{options_in, bad_route, bad_art, discovery_of, target_of, route_octets, route_body_octets, art_octets}
use Rattle.plain.specs.Rank.{integer_part, rank_refused, freshness, plus_delta}
use Rattle.plain.specs.declared.Target.{Target}
use Rattle.plain.specs.declared.Discovery.{Discovery}
use Rattle.plain.specs.declared.Freshness.TheVariants.{Newer, Older, NotComparable}

-- S 1, H 1, L 1, RankLimit 7, SeqNo 240
abbrev pub rreq_hop : Discovery
rreq_hop = record { reply = false; flag = true; h = true; compr = 0; l = 1; limit = 7; number = 240 }

-- S 1, H 0, Compr 8, L 2, RankLimit 5
abbrev pub rreq_source : Discovery
rreq_source = record { reply = false; flag = true; h = false; compr = 8; l = 2; limit = 5; number = 0 }

-- a 20-bit prefix
abbrev pub prefix20 : Target
prefix20 = record { seq = 0xF1; plen = 20; addr = 0x20 ∷ 0x01 ∷ 0xD0 ∷ replicate 13 0 }

pub record Marked : Type 0 where
  -- "S 1, H 1, L 1, RankLimit 7, SeqNo 240: 0B 03 C0 87 F0", written and read
  pub hop_written : route_octets rreq_hop [] ≡ 0x0B ∷ 0x03 ∷ 0xC0 ∷ 0x87 ∷ 0xF0 ∷ []
  pub hop_option : options_in 5 (0x0B ∷ 0x03 ∷ 0xC0 ∷ 0x87 ∷ 0xF0 ∷ []) ≡ some (record { kind = 0x0B; body = 0xC0 ∷ 0x87 ∷ 0xF0 ∷ [] } ∷ [])
  pub hop_good : bad_route (0xC0 ∷ 0x87 ∷ 0xF0 ∷ []) ≡ false
  pub hop_read : discovery_of false (0xC0 ∷ 0x87 ∷ 0xF0 ∷ []) ≡ rreq_hop
  -- "S 1, H 0, Compr 8, L 2, RankLimit 5: 91 05", written and read
  pub source_written : take 2 (route_body_octets rreq_source []) ≡ 0x91 ∷ 0x05 ∷ []
  pub source_read : discovery_of false (0x91 ∷ 0x05 ∷ 0x00 ∷ []) ≡ rreq_source
  -- "ART 0D 05 F1 14 20 01 D0 is a 20-bit prefix", read and written
  pub art_option : options_in 7 (0x0D ∷ 0x05 ∷ 0xF1 ∷ 0x14 ∷ 0x20 ∷ 0x01 ∷ 0xD0 ∷ []) ≡ some (record { kind = 0x0D; body = 0xF1 ∷ 0x14 ∷ 0x20 ∷ 0x01 ∷ 0xD0 ∷ [] } ∷ [])
  pub art_good : bad_art (0xF1 ∷ 0x14 ∷ 0x20 ∷ 0x01 ∷ 0xD0 ∷ []) ≡ false
  pub art_read : target_of (0xF1 ∷ 0x14 ∷ 0x20 ∷ 0x01 ∷ 0xD0 ∷ []) ≡ prefix20
  pub art_written : art_octets prefix20 ≡ 0x0D ∷ 0x05 ∷ 0xF1 ∷ 0x14 ∷ 0x20 ∷ 0x01 ∷ 0xD0 ∷ []
  -- "Step 256: rank 767 is 2, 768 is 3."
  pub rank767 : integer_part 256 767 ≡ 2
  pub rank768 : integer_part 256 768 ≡ 3
  -- "Rank 768, increase 256: limit 3 refuses; limit 4 admits TargNode only; limit 5 all."
  pub limit3 : rank_refused 256 768 256 3 true ≡ true
  pub limit3between : rank_refused 256 768 256 3 false ≡ true
  pub limit4 : rank_refused 256 768 256 4 true ≡ false
  pub limit4between : rank_refused 256 768 256 4 false ≡ true
  pub limit5 : rank_refused 256 768 256 5 true ≡ false
  pub limit5between : rank_refused 256 768 256 5 false ≡ false
  -- "250, 5: 5 newer." "240, 0: 0 newer." "240, 5: 240 newer." "10, 26: 26 newer." "10, 27: not comparable."
  pub fresh250 : freshness 5 250 ≡ Newer
  pub fresh240 : freshness 0 240 ≡ Newer
  pub fresh240older : freshness 240 5 ≡ Newer
  pub fresh10 : freshness 26 10 ≡ Newer
  pub fresh10far : freshness 27 10 ≡ NotComparable
  -- the same asked the other way round
  pub old250 : freshness 250 5 ≡ Older
  pub old240 : freshness 240 0 ≡ Older
  pub old240older : freshness 5 240 ≡ Older
  pub old10 : freshness 10 26 ≡ Older
  pub old10far : freshness 10 27 ≡ NotComparable
  -- "252 plus 6 is 2."
  pub delta : plus_delta 252 6 ≡ 2
