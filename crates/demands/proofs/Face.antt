-- The statements speak of what the contracts of the face tell a caller. For each function: what its contract says of parameters a, result r and
-- parameters at exit z is the promise, of these values, that the statements take.
use mathlib.Core.Path.{refl}
use lib.ListN.{length}
use Rattle.meaning.specs.Narrow.{change_table, change_payload, change_packet}
use Rattle.soundness.specs.Parts.{limits_of}
use Rattle.narrowing.proofs.narrow.narrow_table.Reads as narrow_table
use Rattle.narrowing.proofs.narrow.narrow_payload.Reads as narrow_payload
use Rattle.narrowing.proofs.narrow.narrow_packet.Reads as narrow_packet
use Rattle.recorder.specs.Filter.{record_in}
use Rattle.recorder.specs.Calls.{StartedAs}
use Rattle.recorder.proofs.start.Reads as start
use Rattle.recorder.proofs.Filter.push.Reads as push
use Rattle.recorder.proofs.Filter.dropped.Reads as dropped
use Rattle.demands.specs.Demands.{Push, Ask, Pushed, Asked, Allows, Narrows}

pub start_promised : (κs : _) (a : _) (r : _) (z : _) → start.Learnt κs a r z
    → StartedAs (limits_of (length a.0.now) (length a.1.0.now) a.1.1.1.0) a.1.1.1.1.1.0 a.1.1.1.1.0 a.1.1.0.now r
start_promised κs a r z h = h

pub push_promised : (κs : _) (a : _) (r : _) (z : _) → push.Learnt κs a r z
    → Allows (record { handed = record_in a.0; work = a.1.1.0.now; bodies = a.1.1.1.0.now; map_room = a.1.1.1.1.0.now })
    (Push a.1.0.now a.1.1.1.1.1.0.now) (Pushed r z.1.1.1.1.1.0.now)
    (record { handed = record_in r.filter; work = z.1.1.0.now; bodies = z.1.1.1.0.now; map_room = z.1.1.1.1.0.now })
push_promised κs a r z h = (h, refl)

pub dropped_promised : (κs : _) (a : _) (r : _) (z : _) → dropped.Learnt κs a r z
    → Allows (record { handed = record_in a.0; work = a.1.0.now; bodies = a.1.1.0.now; map_room = a.1.1.1.0.now }) Ask (Asked r)
    (record { handed = record_in r.filter; work = a.1.0.now; bodies = a.1.1.0.now; map_room = a.1.1.1.0.now })
dropped_promised κs a r z h = (h, refl)

pub narrow_table_promised : (κs : _) (a : _) (r : _) (z : _) → narrow_table.Learnt κs a r z
    → Narrows a.0.now (change_table a.1.0 a.0.now) a.1.1.0.now r z.1.1.0.now
narrow_table_promised κs a r z h = h

pub narrow_payload_promised : (κs : _) (a : _) (r : _) (z : _) → narrow_payload.Learnt κs a r z
    → Narrows a.0.now (change_payload a.1.1.0 a.1.0 a.0.now) a.1.1.1.1.0.now r z.1.1.1.1.0.now
narrow_payload_promised κs a r z h = h

pub narrow_packet_promised : (κs : _) (a : _) (r : _) (z : _) → narrow_packet.Learnt κs a r z
    → Narrows a.0.now (change_packet a.1.1.0 a.1.0 a.0.now) a.1.1.1.0.now r z.1.1.1.0.now
narrow_packet_promised κs a r z h = h
