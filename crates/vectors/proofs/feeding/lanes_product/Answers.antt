-- The lanes multiplied in order, from what the calls give.
use Rattle.vectors.proofs.Vectors.{product-fits, lanes-product-is}
use Rattle.vectors.proofs.feeding.lanes_product.Goals as goal

pub overflow_add-result : goal.overflow_add-result
overflow_add-result c =
    product-fits c.args.s c.requires c.exponents-e.result c.split_f64-p.result c.chain.result c.exponents-e.ensures c.chain.ensures c.split_f64-p.ensures

pub returns : goal.returns
returns c =
    lanes-product-is c.args.s c.requires c.exponents-e.result c.split_f64-p.result c.chain.result c.exponents-e.ensures c.chain.ensures c.split_f64-p.ensures
