use Rattle.std.proofs.Common.{◌-◌, ◌≤◌, length, take, arith}
use Rattle.std.proofs.lemmas.List.{length-take}
use Rattle.octets.proofs.Copies.{follow, behind, long}
use Rattle.octets.specs.Room.{room}
use Rattle.octets.proofs.octets.Octets.paste.Goals as goal

pub invariant_of-self : goal.invariant_of-self
invariant_of-self g c =
    let o = c.args.self.now in
    let few : length (take c.min-2.result c.args.bytes.now) ≤ room g.row.MOST - o.used =
    omega (arith, c.min-2.ensures, c.min.ensures, length-take c.min-2.result c.args.bytes.now) in
    let held : o.used ≤ length o.bytes = omega (arith, o.fits, o.long) in
    record {
      long = rw (c.copy_from_slice.ensures.after, long o.used o.bytes (take c.min-2.result c.args.bytes.now) (omega (arith, few, o.fits, o.long))) o.long;
      fits = omega (arith, few, o.fits);
      blank = rw (c.copy_from_slice.ensures.after) (behind g.row.MOST o.used o.bytes (take c.min-2.result c.args.bytes.now) held o.blank (omega (arith, few)));
    }

pub returns : goal.returns
returns g c =
    let o = c.args.self.now in
    let held : o.used ≤ length o.bytes = omega (arith, o.fits, o.long) in
    rw (c.copy_from_slice.ensures.after) (follow (room g.row.MOST) o.used c.min-2.result o.bytes c.args.bytes.now o.fits held (omega (arith, c.min-2.ensures, c.min.ensures)))
