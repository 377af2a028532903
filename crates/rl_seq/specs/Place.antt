-- The place of a way of working: of the struct's parts.
use Rattle.rl_seq.specs.Site.{place_of}
use Rattle.rl_site.specs.Site.{WaySite}
use Rattle.rl_seq.specs.declared.way.SeqWork.{SeqWork}

abbrev pub at_of : SeqWork → WaySite
at_of way = place_of way.geom way.shard way.rooms.items way.behind
