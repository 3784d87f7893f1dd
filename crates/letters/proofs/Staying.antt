-- The followed nodes at one letter.
use lib.Bits.{bit_and, bit_or}
use Rattle.step.specs.declared.pass.Stepped.{Stepped}
use Rattle.letters.specs.declared.follow.Maps.{Maps}

-- the nodes of both maps that are stable at a letter; one that is accepting is a witness from there on
abbrev pub staying : Stepped → Maps → Maps
staying next m =
    record {
      kept = bit_and m.kept next.stable;
      witnesses = bit_and (bit_or m.witnesses (bit_and m.kept next.accepting)) next.stable;
    }
