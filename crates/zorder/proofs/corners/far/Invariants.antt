-- `corners::far` meets its contract: each of the first d costs is filled. Assumes nothing.
use Rattle.zorder.specs.Region.{ones_below}
use Rattle.zorder.proofs.corners.far.Given as goal

abbrev pub ghost-corner : goal.ghost-corner
ghost-corner a = ones_below 1
