-- What readers of forms and numbers read from the tokens of a text (document 01, "The sheet").
pub mod Forms
pub mod Numbers
pub mod Results
