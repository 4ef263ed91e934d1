-- All that an answer is computed with, under one name: who unfolds `everything` unfolds what its line names. Assumes nothing.
use lib.Count.{count_trailing_zeros}
use lib.Ieee.{size, span, climb, odd, units, round, sum, add, sub, neg, mul, lt, le, eq, of_int, of_bits}
use Rattle.model.specs.Candidates.{stride, every, insert, distinct, quantiles, candidates_of}
use Rattle.model.specs.Contexts.{contexts_from, contexts_of, breadth_from, breadth_order}
use Rattle.model.specs.Cost.{histogram, extra_from, log_of, with_count, entropy_from, histogram_cost, cheapest, insert_by_cost, by_cost, cost_of, usable, best_predictor, side_predictors}
use Rattle.model.specs.Deepen.{rows_at, seed_from, seed_state, deepened}
use Rattle.model.specs.Evaluate.{property_order, twin, plan_of, is_repeated, best_from, best_split, offer_of, is_scored, info_of, offered}
use Rattle.model.specs.Flat.{flat_from, flat_bits}
use Rattle.model.specs.Grow.{grown_bits, leaf_over, choice_of, gt_rows, le_rows, gt_span, le_span, gt_leaf, le_leaf, split_rows, become_split, split_at, step_to, step, steps}
use Rattle.model.specs.Learn.{leaf_count, result_of, pruned, settled_state, finished, root_state, learned}
use Rattle.model.specs.Lent.{lent_after}
use Rattle.model.specs.Mode.{lowest, highest, oftenest, width, mode, zero_token, rebased, span_mode, fresh}
use Rattle.model.specs.Operations.{learn, deepen, lookup, leaf_contexts, write_symbols, read_symbols, sample, token_answer}
use Rattle.model.specs.Pack.{packed, pattern, packed_pattern}
use Rattle.model.specs.Partition.{parts, above_rows, other_rows}
use Rattle.model.specs.Prune.{preorder, place_of, priced_from, moved, pruned_nodes, pruned_tree, pruned_bits}
use Rattle.model.specs.Refuse.{is_outside, has_no_predictor, is_uneven, bad_row_from, is_short_alphabet, is_bad_logs, is_short_of_room, is_short_of_seed_room, refused_before, learn_refusal, deepen_refusal, lookup_refusal, contexts_refusal, write_refusal, read_refusal, sample_refusal, token_refusal}
use Rattle.model.specs.Sampling.{even_sample}
use Rattle.model.specs.Score.{lowest_cost, side_cost, score_sides, score_at, score_from, score_of}
use Rattle.model.specs.Settle.{settled}
use Rattle.model.specs.Standard.{unpack_signed, hybrid_bits, read_hybrid}
use Rattle.model.specs.Symbols.{symbols_along, symbols_of, nodes_read, tree_read}
use Rattle.model.specs.Token.{top_bit, token_of, extra_count, extra_bits, value_of, encoded_of, readable}
use Rattle.model.specs.Tree.{reach, leaf_reached, fault_from, fault_of, fault_on_way}

unfoldable pub everything : Unit {0}
unfolding count_trailing_zeros size span climb odd units round sum add sub neg mul lt le eq of_int of_bits stride every insert distinct quantiles candidates_of contexts_from contexts_of breadth_from breadth_order histogram extra_from log_of with_count entropy_from histogram_cost cheapest insert_by_cost by_cost cost_of usable best_predictor side_predictors rows_at seed_from seed_state deepened property_order twin plan_of is_repeated best_from best_split offer_of is_scored info_of offered flat_from flat_bits grown_bits leaf_over choice_of gt_rows le_rows gt_span le_span gt_leaf le_leaf split_rows become_split split_at step_to step steps leaf_count result_of pruned settled_state finished root_state learned lent_after lowest highest oftenest width mode zero_token rebased span_mode fresh learn deepen lookup leaf_contexts write_symbols read_symbols symbols_along symbols_of nodes_read tree_read sample packed pattern packed_pattern parts above_rows other_rows preorder place_of priced_from moved pruned_nodes pruned_tree pruned_bits is_outside has_no_predictor is_uneven bad_row_from is_short_alphabet is_bad_logs is_short_of_room is_short_of_seed_room refused_before learn_refusal deepen_refusal lookup_refusal contexts_refusal write_refusal read_refusal sample_refusal even_sample lowest_cost side_cost score_sides score_at score_from score_of settled unpack_signed hybrid_bits read_hybrid top_bit token_of extra_count extra_bits value_of encoded_of readable token_refusal token_answer reach leaf_reached fault_from fault_of fault_on_way
everything = tt
