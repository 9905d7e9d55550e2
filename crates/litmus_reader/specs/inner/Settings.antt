-- `c:REG=v`, `x=v` and `[x]=v`, as they are in the initial state and in conditions.
use Rattle.litmus_tokens.specs.inner.Numerals.{numeral_of}
use Rattle.litmus_reader.specs.declared.setting.SpelledSetting.{SpelledSetting}
use Rattle.litmus_reader.specs.Written.{Setting, of_register, of_location}
use Rattle.litmus_reader.specs.declared.setting.SpelledSetting.TheVariants as code

abbrev pub setting_of : SpelledSetting → Setting
setting_of (code.Register core reg value) = of_register core.now reg (numeral_of value)
setting_of (code.Location name value) = of_location name.now (numeral_of value)
