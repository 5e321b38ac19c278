-- Eight bytes with zeros past the end of the string are as good as the string.
use Rattle.std.proofs.Common.{◌∙◌}
use Rattle.codec.proofs.Numbers.{number_padded}
use Rattle.codec.proofs.read.Goals as goal

pub returns : goal.returns
returns g c =
    rw c.WIDTH-2.ensures at c.load.ensures ∙ number_padded _ c.args.at _ c.args.s.now g.met.T.Number.narrow c.padded.ensures
