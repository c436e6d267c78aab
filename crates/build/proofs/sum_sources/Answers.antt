-- `build::sum_sources` meets its contract.
use lib.ListN.{length}
use Rattle.build.proofs.Growing.{sources-summable, sums-made}
use Rattle.build.proofs.sum_sources.Goals as goal

pub add_sums-requires : goal.add_sums-requires
add_sums-requires c = sources-summable c.args.axes c.args.rows c.args.work.now (length c.args.indices.now) c.requires c.reference_depth-depth.result c.reference_depth-depth.ensures

pub returns : goal.returns
returns c = sums-made c.args.axes c.args.rows c.args.work.now (length c.args.indices.now) c.requires c.args.marks c.reference_depth-depth.result c.add_sums.new.sums c.reference_depth-depth.ensures c.add_sums.ensures
