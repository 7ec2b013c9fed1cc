-- What the contract of the top call speaks of: the table of the forms.
pub mod Forms
