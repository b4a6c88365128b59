-- The map is the content of its row at address 0, with an empty path and nothing counted.
use Rattle.map_walk.proofs.Surveys.{map-walked}
use Rattle.map_walk.proofs.walk_map.Goals as goal

pub returns : goal.returns
returns c = map-walked _ _ _ _ _ c.walk_content.ensures
