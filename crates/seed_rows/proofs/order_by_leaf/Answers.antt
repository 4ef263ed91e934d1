-- `seed_rows::order_by_leaf` meets its contract: the leaves' numbers, the ordering by them, the spans in pairs, and the space cleared. Assumes nothing.
use Rattle.rows.specs.Flat.{held_in}
use Rattle.rows.specs.Lent.{flat_in}
use Rattle.seed_rows.proofs.Ordering.{hold-space, rows-ordered, spans-of, space-clear}
use Rattle.seed_rows.proofs.order_by_leaf.Goals as goal

pub order_by_number-requires-clause-holds : goal.order_by_number-requires-clause-holds
order_by_number-requires-clause-holds c = hold-space c.requires c.count-row_count.ensures c.number_rows.new.numbers c.number_rows.ensures

pub returns-clause-rows : goal.returns-clause-rows
returns-clause-rows c =
    let done = c.order_by_number in
    let rows = held_in (flat_in done.new.rows) in
    record {
      rows = rows-ordered c.requires c.count-row_count.ensures c.number_rows.new.numbers c.number_rows.ensures rows done.new.space done.auto.space done.ensures.ordered;
      size = done.ensures.size;
      spans_are = spans-of c.requires c.count-row_count.ensures c.number_rows.new.numbers c.number_rows.ensures rows done.new.space done.auto.space done.ensures.ordered c.pair_spans.ensures;
    }

pub returns-clause-zeros : goal.returns-clause-zeros
returns-clause-zeros c =
    let done = c.order_by_number in
    space-clear c.requires c.count-row_count.ensures c.number_rows.new.numbers c.number_rows.ensures (held_in (flat_in done.new.rows)) done.new.space done.auto.space done.ensures.ordered c.fill.new.self
    (c.fill.ensures.after (λ y e. e))
