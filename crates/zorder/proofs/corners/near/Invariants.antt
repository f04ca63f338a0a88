-- `corners::near` meets its contract: each of the first d costs is filled. Assumes nothing.
use Rattle.zorder.specs.Region.{zeros_below}
use Rattle.zorder.proofs.corners.near.Given as goal

abbrev pub ghost-corner : goal.ghost-corner
ghost-corner a = zeros_below 1
