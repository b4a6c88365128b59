-- A reading, as the expressions have it: the readers of parts answer the same.
pub use Rattle.expressions.specs.Reading.{Parsed, ok, stop, unexpected, parsed}
unfoldable pub use Rattle.expressions.specs.Reading.{and_then, mapped}
