-- The proof of `allowed_codes`: behind the codes that are not allowed stand those that are.
use Rattle.codes.proofs.Allowed.{allowed-part}
use Rattle.codes.proofs.allowed_codes.Goals as goal

pub returns : goal.returns
returns c =
    allowed-part c.args.closed c.args.tracks c.args.steps c.requires.0.0 c.usable_codes-to.ensures c.from.ensures
