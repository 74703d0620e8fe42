-- The whole example, computed.
use mathlib.Core.Path.{refl}
use mathlib.Core.List.{flatten}
use Rattle.plain.specs.Lists.{any, all, those, first_of, count, any_two, once_after, same}
use Rattle.plain.specs.Address.{unusable, keep_bits, first_bits}
use Rattle.plain.specs.Table.{becomes, live_from, spare, placed_from}
use Rattle.plain.specs.Answers.{answer_of, of_kind, bad_lent, long_message, good_instance, good_route, wrong_state}
use Rattle.plain.specs.Octets.{sum, fields, word, options_in, bad_configuration, parts, restored, bad_route, target_of, bad_art, same_target, bad_option, request_counts, reply_counts, malformed, unfit, base_of, discovery_of, message_of, too_many, base_octets, configuration_octets, route_body_octets, route_octets, art_octets, octets_of}
use Rattle.plain.specs.Rank.{integer_part, over_limit, rank_refused, freshness, stepped, standing, outdated, row_deadline, lifetime_deadline, plus_delta}
use Rattle.plain.specs.Request.{cannot_elide, own_vector, cannot_grow, matches, common, request_standing, route_stale, targets_kept, asked_with, asked, forwards, replies_now, least_delta, delta_taken, free_delta, request_lines, kept_deadline, request_row, route_row, route_change, with_rank, with_flag, forwarded_request, with_reply_row, accept_request}
use Rattle.plain.specs.Plain.{message_lines, lines, accept_message, accept, decide, place, enact, step}
use Rattle.plain.specs.Whole.{Whole}

pub whole : Whole
unfolding flatten any all those first_of count any_two once_after same unusable keep_bits first_bits becomes live_from spare placed_from answer_of of_kind bad_lent long_message good_instance good_route wrong_state sum fields word options_in bad_configuration parts restored bad_route target_of bad_art same_target bad_option request_counts reply_counts malformed unfit base_of discovery_of message_of too_many base_octets configuration_octets route_body_octets route_octets art_octets octets_of integer_part over_limit rank_refused freshness stepped standing outdated row_deadline lifetime_deadline plus_delta cannot_elide own_vector cannot_grow matches common request_standing route_stale targets_kept asked_with asked forwards replies_now least_delta delta_taken free_delta request_lines kept_deadline request_row route_row route_change with_rank with_flag forwarded_request with_reply_row accept_request message_lines lines accept_message accept decide place enact step
whole = record {
  answer = refl;
  forward = refl;
  size = refl;
  to = refl;
  reply = refl;
  downward_bad = refl;
  deaf = refl;
  unchanged = refl;
}
