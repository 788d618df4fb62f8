-- The names and numbers of the reasons of refusal, and the number of a device's rule.
use Rattle.std.specs.Prelude.{ℕ, List, Option, Some, None, codes}
use Rattle.vms_spec.specs.declared.Reason.{Reason}
use Rattle.vms_spec.specs.declared.Reason.TheVariants as reasons

-- the name of a reason
abbrev pub reason_word : Reason → List ℕ
reason_word reasons.Truncated = codes "Truncated"
reason_word reasons.BadMagic = codes "BadMagic"
reason_word reasons.OldStream = codes "OldStream"
reason_word reasons.BadVersion = codes "BadVersion"
reason_word reasons.BadMark = codes "BadMark"
reason_word reasons.Ram = codes "Ram"
reason_word reasons.Iterative = codes "Iterative"
reason_word reasons.Command = codes "Command"
reason_word reasons.ConfigurationExtra = codes "ConfigurationExtra"
reason_word reasons.WrongMachine = codes "WrongMachine"
reason_word reasons.UnknownSection = codes "UnknownSection"
reason_word reasons.RepeatedSection = codes "RepeatedSection"
reason_word reasons.TooNew = codes "TooNew"
reason_word reasons.TooOld = codes "TooOld"
reason_word reasons.BadBool = codes "BadBool"
reason_word reasons.NotEqual = codes "NotEqual"
reason_word reasons.CountTooLarge = codes "CountTooLarge"
reason_word reasons.UnknownSubsection = codes "UnknownSubsection"
reason_word reasons.RepeatedSubsection = codes "RepeatedSubsection"
reason_word reasons.Invalid = codes "Invalid"
reason_word (reasons.Unsound rule) = codes "Unsound"
reason_word reasons.BadFooter = codes "BadFooter"
reason_word reasons.MissingSection = codes "MissingSection"
reason_word reasons.LinesDisagree = codes "LinesDisagree"
reason_word reasons.Trailing = codes "Trailing"
reason_word reasons.DescriptionTooLong = codes "DescriptionTooLong"

-- the number of a reason, from 1 on, by which C learns it
abbrev pub reason_number : Reason → ℕ
reason_number reasons.Truncated = 1
reason_number reasons.BadMagic = 2
reason_number reasons.OldStream = 3
reason_number reasons.BadVersion = 4
reason_number reasons.BadMark = 5
reason_number reasons.Ram = 6
reason_number reasons.Iterative = 7
reason_number reasons.Command = 8
reason_number reasons.ConfigurationExtra = 9
reason_number reasons.WrongMachine = 10
reason_number reasons.UnknownSection = 11
reason_number reasons.RepeatedSection = 12
reason_number reasons.TooNew = 13
reason_number reasons.TooOld = 14
reason_number reasons.BadBool = 15
reason_number reasons.NotEqual = 16
reason_number reasons.CountTooLarge = 17
reason_number reasons.UnknownSubsection = 18
reason_number reasons.RepeatedSubsection = 19
reason_number reasons.Invalid = 20
reason_number (reasons.Unsound rule) = 21
reason_number reasons.BadFooter = 22
reason_number reasons.MissingSection = 23
reason_number reasons.LinesDisagree = 24
reason_number reasons.Trailing = 25
reason_number reasons.DescriptionTooLong = 26

-- the number of the device's rule that fails, if that is the reason
abbrev pub rule_of : Reason → Option ℕ
rule_of (reasons.Unsound rule) = Some rule
rule_of _ = None
