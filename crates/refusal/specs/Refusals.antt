-- Refusals as the code has them, the numbers that they have in the papers, and places with them.
use Rattle.std.specs.Prelude.{ℕ, Result, Ok, Err}
use Rattle.std.proofs.Math.Option.{Option, some, none}
use Rattle.refusal.specs.Numbers.{
  accepted,
  not_well_formed,
  output_too_short,
  bad_link,
  line_too_long,
  no_line_end,
  forbidden_byte,
  empty_line,
  empty_prefix,
  bad_command,
  too_many_params,
  unknown_command,
  wrong_param_count,
  bad_source,
  bad_time,
  zero_time,
  bad_name,
  bad_modes,
  bad_members,
  no_such_channel,
  not_on_channel,
  no_free_slot,
  too_many_members,
  text_too_long,
  unwritable,
  no_room,
  bad_masks,
  too_many_masks,
  no_mark,
  bad_log_link,
  bad_log_length,
  log_cut,
  unknown_mode,
  mode_twice,
  wrong_mode_params,
  bad_key,
  bad_limit,
}
use Rattle.refusal.specs.Faults as faults
use Rattle.refusal.specs.Faults.{fault}
use Rattle.refusal.specs.declared.Fault.{Fault}
use Rattle.refusal.specs.declared.Refusal.{Refusal}
use Rattle.refusal.specs.declared.Refusal.TheVariants.{
  NotWellFormed,
  OutputTooShort,
  BadLink,
  LineTooLong,
  NoLineEnd,
  ForbiddenByte,
  EmptyLine,
  EmptyPrefix,
  BadCommand,
  TooManyParams,
  UnknownCommand,
  WrongParamCount,
  BadSource,
  BadTime,
  ZeroTime,
  BadName,
  BadModes,
  BadMembers,
  NoSuchChannel,
  NotOnChannel,
  NoFreeSlot,
  TooManyMembers,
  TextTooLong,
  Unwritable,
  NoRoom,
  BadMasks,
  TooManyMasks,
  NoMark,
  BadLogLink,
  BadLogLength,
  LogCut,
  UnknownMode,
  ModeTwice,
  WrongModeParams,
  BadKey,
  BadLimit,
}

abbrev pub number_of : Refusal → ℕ
number_of NotWellFormed = not_well_formed
number_of OutputTooShort = output_too_short
number_of BadLink = bad_link
number_of LineTooLong = line_too_long
number_of NoLineEnd = no_line_end
number_of ForbiddenByte = forbidden_byte
number_of EmptyLine = empty_line
number_of EmptyPrefix = empty_prefix
number_of BadCommand = bad_command
number_of TooManyParams = too_many_params
number_of UnknownCommand = unknown_command
number_of WrongParamCount = wrong_param_count
number_of BadSource = bad_source
number_of BadTime = bad_time
number_of ZeroTime = zero_time
number_of BadName = bad_name
number_of BadModes = bad_modes
number_of BadMembers = bad_members
number_of NoSuchChannel = no_such_channel
number_of NotOnChannel = not_on_channel
number_of NoFreeSlot = no_free_slot
number_of TooManyMembers = too_many_members
number_of TextTooLong = text_too_long
number_of Unwritable = unwritable
number_of NoRoom = no_room
number_of BadMasks = bad_masks
number_of TooManyMasks = too_many_masks
number_of NoMark = no_mark
number_of BadLogLink = bad_log_link
number_of BadLogLength = bad_log_length
number_of LogCut = log_cut
number_of UnknownMode = unknown_mode
number_of ModeTwice = mode_twice
number_of WrongModeParams = wrong_mode_params
number_of BadKey = bad_key
number_of BadLimit = bad_limit

-- the number that an answer is told by
abbrev pub answered : {A : Type 0} → Result A Refusal → ℕ
answered (Ok x) = accepted
answered (Err e) = number_of e

-- a refusal that tells no place
abbrev pub unplaced : Refusal → Fault
unplaced e = record { refusal = e; place = 0 }

-- the number of an answer that may be refused with a place, and that place, or 0
abbrev pub fault_number : {A : Type 0} → Result A Fault → ℕ
fault_number (Ok x) = accepted
fault_number (Err f) = number_of f.refusal

abbrev pub fault_place : {A : Type 0} → Result A Fault → ℕ
fault_place (Ok x) = 0
fault_place (Err f) = f.place

-- the fault that an answer tells, by its number and its place, if it tells one
abbrev pub told_fault : {A : Type 0} → Result A Fault → Option (faults.Fault ℕ)
told_fault (Ok x) = none
told_fault (Err f) = some (fault (number_of f.refusal) f.place)
