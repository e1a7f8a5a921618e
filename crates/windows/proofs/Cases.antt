-- The tables of cases hold of the definitions. Assumes nothing.
use mathlib.Core.Path.{refl}
use lib.Ieee.{size, odd, to_bits, is_nan}
use Rattle.refusals.specs.Refusals.{first_of}
use Rattle.floats.specs.Rounding.{delivered, rounded}
use Rattle.floats.specs.Product.{product}
use Rattle.floats.specs.Fields.{of_parts, value_of, bad_bits, factor_of}
use Rattle.floats.specs.Splitting.{is_bad, rate_factor, split}
use Rattle.kernels.specs.Lanes as lanes
use Rattle.kernels.specs.Blocks as blocks
use Rattle.windows.specs.Windows.{windows_of, windows_code, windows_answer, window_ms, window_es, window_bads}
use Rattle.windows.specs.Cases.{WindowTable, NoWindowTable, WindowRankTable}

pub window-tables : WindowTable × NoWindowTable × WindowRankTable
unfolding first_of windows_of windows_code windows_answer window_ms window_es window_bads blocks.contiguous blocks.blocks blocks.block blocks.unsplit blocks.renorm
    blocks.renorm_lane lanes.in_order lanes.feed blocks.split_step blocks.unsplit_step blocks.in_range lanes.every lanes.some blocks.lane_in blocks.lanes_in split
    rate_factor factor_of to_bits value_of of_parts delivered is_bad bad_bits product rounded size odd is_nan
window-tables =
    (((refl, refl, refl, refl), (refl, refl, refl, refl), (refl, refl, refl, refl)), ((refl, refl, refl, refl), (refl, refl, refl, refl), (refl, refl, refl, refl)), (refl, refl, refl, refl, refl, refl, refl))
