-- The worked cases, by computing.
use Rattle.std.proofs.Common.{refl}
use Rattle.rules.specs.Areas.{cut, by_words, run, area}
use Rattle.channel.specs.Steps.{advanced}
use Rattle.figures.specs.Cases.{WorkedCases}

pub worked : WorkedCases
unfolding cut by_words run area advanced
worked = record { too_long = refl; too_long_bytes = refl; exact = refl; exact_bytes = refl; transfer = refl; after_chain = refl; two_ran = refl; zero = refl }
