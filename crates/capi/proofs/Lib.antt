-- Laws of a record's text, for the function that writes it.
mod Describing
