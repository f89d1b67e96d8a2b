use Rattle.vl_mean_flat.proofs.Places.{item_seen, items_seen, parts_seen, places_seen}
use Rattle.vl_mean_flat.proofs.placed_law.parts_depend_on_what_is_there.Goals as goal

pub returns : goal.returns
returns c = record { item = item_seen; items = items_seen; parts = parts_seen; places = places_seen }
