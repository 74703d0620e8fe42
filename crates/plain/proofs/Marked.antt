-- The marked cases, computed.
use mathlib.Core.Path.{refl}
use mathlib.Core.List.{flatten}
use Rattle.plain.specs.Address.{keep_bits, first_bits}
use Rattle.plain.specs.Octets.{sum, fields, word, options_in, bad_route, bad_art, discovery_of, target_of, route_octets, route_body_octets, art_octets}
use Rattle.plain.specs.Rank.{integer_part, over_limit, rank_refused, freshness, plus_delta}
use Rattle.plain.specs.Marked.{Marked}

pub marked : Marked
unfolding flatten keep_bits first_bits sum fields word options_in bad_route bad_art discovery_of target_of route_octets route_body_octets art_octets integer_part over_limit rank_refused freshness plus_delta
marked = record {
  hop_written = refl;
  hop_option = refl;
  hop_good = refl;
  hop_read = refl;
  source_written = refl;
  source_read = refl;
  art_option = refl;
  art_good = refl;
  art_read = refl;
  art_written = refl;
  rank767 = refl;
  rank768 = refl;
  limit3 = refl;
  limit3between = refl;
  limit4 = refl;
  limit4between = refl;
  limit5 = refl;
  limit5between = refl;
  fresh250 = refl;
  fresh240 = refl;
  fresh240older = refl;
  fresh10 = refl;
  fresh10far = refl;
  old250 = refl;
  old240 = refl;
  old240older = refl;
  old10 = refl;
  old10far = refl;
  delta = refl;
}
