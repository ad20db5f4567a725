-- The claim over the table of cases.
mod Cases
