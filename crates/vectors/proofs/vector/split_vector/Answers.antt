-- Assumes nothing.
use mathlib.Core.Path.{sym, ◌∙◌}
use borrow.Author.Rules.{rules}
use Rattle.vectors.proofs.Lows.{lane-ordinary, lane-subnormal}
use Rattle.vectors.proofs.vector.split_vector.Goals as goal

pub split_each-requires-clause-splits : goal.split_each-requires-clause-splits
split_each-requires-clause-splits c = record {
  may = λ k l. let o = lane-ordinary c.args.vector.v (search rules) (sym c.vector_ordinary.ensures ∙ c.if-vector_ordinary.true) k l in search (rules, o);
  gives = λ k p l e. search rules;
}

pub split_each-requires-then-vector_subnormal-clause-splits : goal.split_each-requires-then-vector_subnormal-clause-splits
split_each-requires-then-vector_subnormal-clause-splits c = record {
  may = λ k l. let o = lane-subnormal c.args.vector.v (search rules) (sym c.vector_subnormal.ensures ∙ c.if-vector_subnormal.true) k l in search (rules, o);
  gives = λ k p l e. search rules;
}
